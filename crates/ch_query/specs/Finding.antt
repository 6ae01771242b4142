-- The first number of a range for which a property does not hold.
use Rattle.std.specs.Prelude.{ℕ, ◌<◌, ◌≤◌, List, [], ◌∷◌, Option, Some, None, MatchOption}

-- P holds for each number of the range
abbrev pub HoldsIn : (ℕ → Type 0) → ℕ → ℕ → Type 0
HoldsIn P from to = (v : ℕ) → from ≤ v → v < to → P v

-- the first number of the range for which P does not hold, or none if P holds for each
abbrev pub IsFirstWithout : (ℕ → Type 0) → ℕ → ℕ → Option ℕ → Type 0
IsFirstWithout P from to first = MatchOption first (HoldsIn P from to) (λ v. (from ≤ v) × (v < to) × (P v → ⊥) × HoldsIn P from v)

-- if a number is known, it is below the end of the range, P does not hold for it, and P holds for each smaller number of
-- the range. If none is known, P holds for each number of the range
abbrev pub IsWithoutBelow : (ℕ → Type 0) → ℕ → ℕ → Option ℕ → Type 0
IsWithoutBelow P from to known = MatchOption known (HoldsIn P from to) (λ v. (v < to) × (P v → ⊥) × HoldsIn P from v)

-- the first entry of the list that is a number, or none if there is no such entry
abbrev pub first_some : List (Option ℕ) → Option ℕ
first_some [] = None
first_some (None ∷ xs) = first_some xs
first_some (Some v ∷ xs) = Some v
