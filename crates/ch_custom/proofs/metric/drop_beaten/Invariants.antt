-- The pairs before this place are without their beaten legs, and the others are as they were.
use Rattle.std.proofs.Common.{ℕ, ◌≡◌, ◌<◌, ◌≤◌, length, get_or}
use Rattle.ch_custom.specs.declared.leg_pair.LegPair.{LegPair}
use Rattle.ch_custom.specs.LegPairs.{unbeaten_pair}
use Rattle.ch_custom.proofs.metric.drop_beaten.Given as goal

abbrev pub invariant-loop-place : goal.invariant-loop-place
invariant-loop-place l = (length l.row ≡ length l.fn.row)
    × ((k : ℕ) (d : LegPair) → k < l.place → k < length l.fn.row →
    get_or l.row k d ≡ unbeaten_pair (get_or l.fn.row k d))
    × ((k : ℕ) (d : LegPair) → l.place ≤ k → get_or l.row k d ≡ get_or l.fn.row k d)
