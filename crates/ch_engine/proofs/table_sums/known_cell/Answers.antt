-- Without a meeting there is no walk, and with one its sum is that along the route.
use Rattle.std.proofs.Common.{None, refl}
use Rattle.ch_engine.specs.Held.{only}
use Rattle.ch_engine.proofs.MeetingTrees.{tree_pair}
use Rattle.ch_engine.proofs.SumMeets.{cell_never, cell_route}
use Rattle.ch_engine.proofs.TableSums.{found_none}
use Rattle.ch_engine.proofs.table_sums.known_cell.Goals as goal

pub returns-in_default : goal.returns-in_default
returns-in_default c = λ H lines values s t of low cell.
    (None, found_none H s t (cell_never H (of.0, of.1, of.2) lines values s t c.args.met cell c.in_default.is), refl, refl)

pub returns : goal.returns
returns c = λ H lines values s t of low cell.
    let x = c.in-Some.first in
    tree_pair (only H lines) values s t of low (x.cost.weight, x.sum)
    (cell_route H (of.0, of.1, of.2) lines values s t c.args.met cell x c.in-Some.is c.if-sum.false)
