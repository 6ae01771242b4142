-- The pairs before the current one are written from the given place on, and all other places are as before.
use Rattle.std.proofs.Common.{◌≡◌, ◌+◌, ◌<◌, ℕ, length, slice_index, slice_index_or}
use Rattle.ch_engine.specs.NearRows.{StaysFrom}
use Rattle.ch_engine.proofs.near.write_row.Given as goal

abbrev pub invariant-loop-j : goal.invariant-loop-j
invariant-loop-j l = record {
  long : length l.weights ≡ length l.fn.weights;
  wide : length l.places ≡ length l.fn.places;
  weighs : (j : ℕ) → j < l.j → slice_index l.weights (l.begin + j) ≡ (slice_index_or l.row j (0, 0)).0;
  places : (j : ℕ) → j < l.j → slice_index l.places (l.begin + j) ≡ (slice_index_or l.row j (0, 0)).1;
  before : (k : ℕ) → k < l.begin →
      (slice_index l.weights k ≡ slice_index l.fn.weights k) × (slice_index l.places k ≡ slice_index l.fn.places k);
  weights_behind : StaysFrom (l.begin + length l.row) l.fn.weights l.weights;
  places_behind : StaysFrom (l.begin + length l.row) l.fn.places l.places;
}
