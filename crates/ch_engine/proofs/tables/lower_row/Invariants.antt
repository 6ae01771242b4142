-- The row is lowered by the sums over the ranks before the current one.
use Rattle.std.proofs.Common.{take}
use Rattle.ch_query.specs.Lowered.{AreLowered}
use Rattle.ch_engine.specs.Tables.{IsSumBy}
use Rattle.ch_engine.proofs.tables.lower_row.Given as goal

abbrev pub invariant-loop-i : goal.invariant-loop-i
invariant-loop-i l = AreLowered (IsSumBy l.buckets.slots.now.names l.buckets.rows (take l.i l.space)) l.fn.row l.row
