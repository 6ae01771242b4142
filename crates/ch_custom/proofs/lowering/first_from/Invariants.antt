-- The pairs from the start to this place have lesser nodes.
use Rattle.std.proofs.Common.{ℕ, ◌<◌, ◌≤◌, ◌-◌, length, get_or}
use Rattle.ch_custom.specs.declared.leg_pair.LegPair.{LegPair}
use Rattle.ch_custom.proofs.lowering.first_from.Given as goal

abbrev pub invariant-loop-place : goal.invariant-loop-place
invariant-loop-place l = (l.from ≤ l.place) × (l.place ≤ length l.row)
    × ((k : ℕ) (d : LegPair) → l.from ≤ k → k < l.place → (get_or l.row k d).node < l.node)

abbrev pub decreases-loop-place : goal.decreases-loop-place
decreases-loop-place l = length l.row - l.place
