-- The sums before the current one are written from the given place on, and all other places are as before.
use Rattle.std.proofs.Common.{◌≡◌, ◌+◌, ◌<◌, ℕ, length, slice_index}
use Rattle.ch_engine.specs.NearRows.{StaysFrom}
use Rattle.ch_engine.proofs.sums.write_found.Given as goal

abbrev pub invariant-loop-j : goal.invariant-loop-j
invariant-loop-j l = record {
  long : length l.sums ≡ length l.fn.sums;
  holds : (j : ℕ) → j < l.j → slice_index l.sums (l.begin + j) ≡ slice_index l.found j;
  before : (k : ℕ) → k < l.begin → slice_index l.sums k ≡ slice_index l.fn.sums k;
  behind : StaysFrom (l.begin + length l.found) l.fn.sums l.sums;
}
