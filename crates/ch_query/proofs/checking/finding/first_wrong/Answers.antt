-- The first number among the values of all ranges is the first item that is not right.
use Rattle.ch_query.proofs.faults.Firsts.{first_of_all}
use Rattle.ch_query.proofs.checking.finding.first_wrong.Goals as goal

pub returns : goal.returns
returns g c =
    let right = g.C.ItemCheck.right c.args.check.now in
    let first = first_of_all right c.args.items c.args.crew.now.plan.piece c.in_ok-known.known.items c.in_ok-known.ensures.limits.piece.0
    c.in_ok-known.ensures.values in
    rw (c.first_of.ensures, c.deref.ensures.value) first
