-- The tree of a topology: the parent of a place is the first place of its row.
use Rattle.std.specs.Prelude.{◌≡◌, ◌⊎◌, ℕ, ◌<◌, List, [], ◌∷◌}
use Rattle.ch_custom.specs.Customizing.{HasParent, IsPair}

-- p is later, and each other place of the row of i is later still and in the row of p
pub record IsParent (n : ℕ) (order : List ℕ) (rows : List (List ℕ)) (i p : ℕ) : Type 0 where
  pub later : (i < p) × (p < n)
  pub rest : (x : ℕ) → x < n → IsPair order rows i x → (x ≡ p) ⊎ ((p < x) × IsPair order rows p x)

-- going up from parent to parent leads from i to j
abbrev pub LeadsUp : ℕ → List ℕ → List (List ℕ) → ℕ → ℕ → List ℕ → Type 0
LeadsUp n order rows i j [] = i ≡ j
LeadsUp n order rows i j (p ∷ ps) = IsParent n order rows i p × LeadsUp n order rows p j ps

-- j is i, or an ancestor of it
abbrev pub IsAncestor : ℕ → List ℕ → List (List ℕ) → ℕ → ℕ → Type 0
IsAncestor n order rows i j = (ps : List ℕ) × LeadsUp n order rows i j ps

-- a walk over pairs, from place to higher place
abbrev pub IsClimb : ℕ → List ℕ → List (List ℕ) → ℕ → ℕ → List ℕ → Type 0
IsClimb n order rows i j [] = i ≡ j
IsClimb n order rows i j (x ∷ xs) = (x < n) × IsPair order rows i x × IsClimb n order rows x j xs

-- each place that a walk over pairs comes to is an ancestor of its start. So a search that goes up from parent to parent,
-- and relaxes all legs of each, finds the least cost to each place that can be reached by going up
abbrev pub ClimbsVisitAncestors : Type 0
ClimbsVisitAncestors = (n : ℕ) (order : List ℕ) (rows : List (List ℕ)) → ((k : ℕ) → k < n → HasParent n order rows k) →
    (i j : ℕ) (xs : List ℕ) → i < n → IsClimb n order rows i j xs → IsAncestor n order rows i j
