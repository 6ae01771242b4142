-- The sum is that of the values within the limit among the pairs before the current one.
use Rattle.std.proofs.Common.{◌≡◌, take}
use Rattle.ch_engine.specs.Sums.{sum_within}
use Rattle.ch_engine.proofs.sums.sum_within.Given as goal

abbrev pub invariant-loop-pair : goal.invariant-loop-pair
invariant-loop-pair l = l.sum ≡ sum_within l.values l.limit (take l.pair-index l.row)
