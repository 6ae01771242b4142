-- No node before this place is in the part.
use Rattle.std.proofs.Common.{ℕ, ◌<◌, length}
use Rattle.std.specs.Prelude.{◌≢◌, slice_index}
use Rattle.ch_custom.proofs.parts.has_part.Given as goal

abbrev pub invariant-loop-place : goal.invariant-loop-place
invariant-loop-place l = (k : ℕ) → k < l.place → k < length l.row → slice_index l.parts (slice_index l.row k) ≢ l.part
