-- The words are lowered by the sums over the ranks before the current one.
use Rattle.std.proofs.Common.{take}
use Rattle.ch_query.specs.Lowered.{AreLowered, IsSumOver}
use Rattle.ch_query.proofs.weights.lowering.lower_by_space.Given as goal

abbrev pub invariant-loop-rank : goal.invariant-loop-rank
invariant-loop-rank g l =
    AreLowered (IsSumOver (g.L.Lowering.sums l.lowering) (take l.rank-index l.space) l.buckets) (g.L.Lowering.words l.fn.row)
    (g.L.Lowering.words l.row)
