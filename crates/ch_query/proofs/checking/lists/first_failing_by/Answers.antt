-- The first number whose item is not right is the place of the first such item of the list.
use Rattle.ch_query.proofs.faults.Firsts.{listed}
use Rattle.ch_query.proofs.checking.lists.first_failing_by.Goals as goal

pub returns : goal.returns
returns g c =
    rw c.place_of.ensures (listed (g.C.ListCheck.right c.args.check.now) c.args.items.now c.in_ok-first.first c.in_ok-first.ensures)
