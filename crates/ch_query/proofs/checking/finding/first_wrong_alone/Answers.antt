-- The value of the one range of all items is the first item that is not right.
use Rattle.ch_query.proofs.faults.Firsts.{first_of_known}
use Rattle.ch_query.proofs.checking.finding.first_wrong_alone.Goals as goal

pub returns : goal.returns
returns g c = first_of_known (g.C.ItemCheck.right c.args.check.now) c.args.items c.piece.result c.piece.ensures.value
