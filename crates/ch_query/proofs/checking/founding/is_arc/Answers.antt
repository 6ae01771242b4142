-- The row of the leg's start has an arc to its end at its weight exactly if the graph has.
use Rattle.std.proofs.Common.{arith}
use Rattle.ch_query.proofs.faults.ArcRows.{row_arc}
use Rattle.ch_query.proofs.checking.founding.is_arc.Goals as goal

pub returns-then-leg-row_count : goal.returns-then-leg-row_count
returns-then-leg-row_count c =
    λ g limits are. row_arc g c.args.rows.now c.args.leg c.row.result.now c.has_arc.result are (omega arith) c.row.ensures c.has_arc.ensures
