-- Orders that are being made.
use Rattle.std.specs.Prelude.{◌≡◌, ◌≢◌, ℕ, ◌<◌, ◌⊎◌, List, [], ◌∷◌, ◌++◌, Bool, true, false, length, slice_index_or, All}
use Rattle.std.specs.Prelude.{AllPairs, Contains}

-- the nodes are different and below n, and exactly they are marked
pub record IsBegun (n : ℕ) (nodes : List ℕ) (taken : List Bool) : Type 0 where
  pub marks : length taken ≡ n
  pub within : All (λ v. v < n) nodes
  pub distinct : AllPairs ◌≢◌ nodes
  pub marked : (v : ℕ) → v < n → slice_index_or taken v false ≡ true → Contains nodes v
  pub others : (v : ℕ) → v < n → slice_index_or taken v false ≡ false → Contains nodes v → ⊥

-- the node is there already or is not below n, or it was put at the end
abbrev pub IsPut : ℕ → ℕ → List ℕ → List ℕ → Type 0
IsPut n node old new = ((new ≡ old) × (node < n → Contains old node)) ⊎ ((new ≡ old ++ node ∷ []) × (Contains old node → ⊥))
