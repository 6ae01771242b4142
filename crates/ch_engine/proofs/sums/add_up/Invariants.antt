-- The limits before the current one have the sum of the values within them.
use Rattle.std.proofs.Common.{◌≡◌, ◌<◌, ℕ, length, slice_index}
use Rattle.ch_engine.specs.Sums.{sum_within}
use Rattle.ch_engine.proofs.sums.add_up.Given as goal

abbrev pub invariant-loop-j : goal.invariant-loop-j
invariant-loop-j l =
    (length l.found ≡ length l.fn.found) × ((j : ℕ) → j < l.j → slice_index l.found j ≡ sum_within l.values (slice_index l.limits j) l.row)
