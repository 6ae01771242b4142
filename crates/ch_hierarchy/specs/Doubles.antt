-- Legs with the same two nodes as an earlier leg.
use Rattle.std.specs.Prelude.{◌≡◌, ℕ, ◌<◌, ◌≤◌, ◌⊎◌, List, Contains, Option, Some}
use Rattle.ch_hierarchy.specs.declared.placing.Placed.{Placed}

-- the result is the least of the known number and the numbers that have D
pub record IsLessened (D : ℕ → Type 0) (known result : Option ℕ) : Type 0 where
  pub is : (p : ℕ) → result ≡ Some p → (known ≡ Some p) ⊎ D p
  pub covers_known : (q : ℕ) → known ≡ Some q → (p : ℕ) × (result ≡ Some p) × (p ≤ q)
  pub covers_new : (q : ℕ) → D q → (p : ℕ) × (result ≡ Some p) × (p ≤ q)

-- the entry of place p has the same two nodes as an entry of lesser place
abbrev pub IsTwin : List Placed → ℕ → Type 0
IsTwin entries p = (a b : Placed) × Contains entries a × Contains entries b × (a.lower ≡ b.lower) × (a.higher ≡ b.higher)
    × (a.place < b.place) × (b.place ≡ p)
