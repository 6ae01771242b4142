-- The node is the first of those before this place.
use Rattle.std.proofs.Common.{ℕ, ◌<◌, ◌≤◌, length, Contains}
use Rattle.std.specs.Prelude.{slice_index}
use Rattle.ch_custom.proofs.topology.first_of.Given as goal

abbrev pub invariant-loop-place : goal.invariant-loop-place
invariant-loop-place l = Contains l.row l.first
    × ((k : ℕ) → k < l.place → k < length l.row → slice_index l.levels l.first ≤ slice_index l.levels (slice_index l.row k))
