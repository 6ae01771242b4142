-- If the least key is above the least sum, each key is.
use Rattle.ch_query.proofs.one_side.PathLaws.{below_then}
use Rattle.ch_query.proofs.one_side.Popping.{least_key}
use Rattle.ch_query.proofs.sides.meeting.is_past.Goals as goal

pub returns-in-Some-Some : goal.returns-in-Some-Some
returns-in-Some-Some c =
    let found = c.in-Some-Some in
    λ past v d k. (
      (found.sum, found.field-0-1-1),
      found.is-1,
      below_then found.sum found.key d (c.is_below.ensures.0 past) ((least_key _ _ found.ensures).least v d k),
    )
