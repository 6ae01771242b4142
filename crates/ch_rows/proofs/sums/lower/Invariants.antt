-- The row is lowered by the sums of the entries before the current one.
use Rattle.std.proofs.Common.{take}
use Rattle.ch_query.specs.Lowered.{AreLowered}
use Rattle.ch_rows.specs.Sums.{IsSumAt}
use Rattle.ch_rows.proofs.sums.lower.Given as goal

abbrev pub invariant-loop-place : goal.invariant-loop-place
invariant-loop-place l = AreLowered (IsSumAt l.weight (take l.place-index l.bucket)) l.fn.row l.row
