-- The side whose least key is not above the other's leads the keys of both sides.
use Rattle.ch_query.proofs.one_side.Popping.{leads_as_told}
use Rattle.ch_query.proofs.sides.search.Search.leads.Goals as goal

pub returns-in-Some-Some-clause-here : goal.returns-in-Some-Some-clause-here
returns-in-Some-Some-clause-here c =
    let both = c.in-Some-Some in
    (leads_as_told _ _ (both.here, both.field-0-1-0) (both.there, both.field-0-1-1) both.ensures both.ensures' c.is_below.result
    c.is_below.ensures).0

pub returns-in-Some-Some-clause-there : goal.returns-in-Some-Some-clause-there
returns-in-Some-Some-clause-there c =
    let both = c.in-Some-Some in
    (leads_as_told _ _ (both.here, both.field-0-1-0) (both.there, both.field-0-1-1) both.ensures both.ensures' c.is_below.result
    c.is_below.ensures).1
