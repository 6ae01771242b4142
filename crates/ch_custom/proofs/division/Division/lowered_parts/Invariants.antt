-- The numbers of the parts before this one are there.
use Rattle.std.proofs.Common.{◌≡◌, ℕ, ◌<◌, ◌≤◌, length, get_or}
use Rattle.ch_custom.proofs.division.Division.lowered_parts.Given as goal

abbrev pub invariant-loop-part : goal.invariant-loop-part
invariant-loop-part g l = (length l.numbers.items ≡ l.part) × (l.part ≤ l.self.rest)
    × ((k d : ℕ) → k < length l.numbers.items → get_or l.numbers.items k d ≡ k)
