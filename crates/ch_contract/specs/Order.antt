-- The order of contraction.
use Rattle.std.specs.Prelude.{◌≡◌, ◌≢◌, ℕ, zero, suc, ◌+◌, ◌-◌, ◌<◌, ◌≤◌, ◌||◌, Bool, true, false, if◌then◌else◌, max, List, length}
use Rattle.std.specs.Prelude.{slice_index, AllPairs, All, Contains, is_some, ℤ, ◌≤ℤ◌, take}
use Rattle.ch_graph.specs.Graph.{Network}
use Rattle.ch_contract.specs.declared.measure.OrderBy.{OrderBy}
use Rattle.ch_contract.specs.Legs.{Legs, SameLegs, opening}
use Rattle.ch_contract.specs.Contraction.{Contracts, IsPriorityBy}

-- a leg leads from one of the two nodes to the other
abbrev pub are_neighbours : Legs → ℕ → ℕ → Bool
are_neighbours L v x = is_some (L v x) || is_some (L x v)

-- the depths after v is contracted: the depth of each neighbour is at least one more than that of v
abbrev pub next_depth : Legs → ℕ → (ℕ → ℕ) → ℕ → ℕ
next_depth L v depth x = if are_neighbours L v x then max (depth x) (depth v + 1) else depth x

-- the depths after the first i steps: at first 0
abbrev pub depth_after : List ℕ → (ℕ → Legs) → ℕ → ℕ → ℕ
depth_after order L zero x = 0
depth_after order L (suc i) x = next_depth (L i) (slice_index order i) (depth_after order L i) x

-- the last of the first i steps that contracts a neighbour of x is the j-th, counted from 1; j is 0 if there is none
pub record IsLastTouch (order : List ℕ) (L : ℕ → Legs) (i x j : ℕ) : Type 0 where
  pub within : j ≤ i
  pub touched : 0 < j → are_neighbours (L (j - 1)) (slice_index order (j - 1)) x ≡ true
  pub later : (k : ℕ) → j ≤ k → k < i → are_neighbours (L k) (slice_index order k) x ≡ false

-- the priority of x after the first i steps: it is computed again only when a neighbour is contracted
abbrev pub IsPriorityAfter : OrderBy → ℕ → ℕ → List ℕ → (ℕ → Legs) → ℕ → ℕ → ℤ → Type 0
IsPriorityAfter by n h order L i x p = (j : ℕ) × IsLastTouch order L i x j × IsPriorityBy by n h (L j) (depth_after order L j) x p

-- the lesser priority comes first; at equal priorities the lesser number comes first
abbrev pub IsContractedBefore : ℤ → ℕ → ℤ → ℕ → Type 0
IsContractedBefore p v q x = (p ≤ℤ q) × (q ≤ℤ p → v ≤ x)

-- all nodes of g are taken, each once and in any order; L i are the legs after the first i steps, and IsStep says how a
-- step changes them
pub record AreTaken (IsStep : Legs → ℕ → Legs → Type 0) (g : Network) (order : List ℕ) (L : ℕ → Legs) : Type 0 where
  pub nodes : (length order ≡ g.nodes) × All (λ v. v < g.nodes) order × AllPairs ◌≢◌ order
  pub start : SameLegs (L 0) (opening g)
  pub step : (i : ℕ) → i < g.nodes → IsStep (L i) (slice_index order i) (L (i + 1))

-- all nodes of g are contracted, each once and in any order; L i are the legs after the first i steps
abbrev pub AreContracted : Network → ℕ → List ℕ → (ℕ → Legs) → Type 0
AreContracted g h order L = AreTaken (Contracts g.nodes h) g order L

-- at each step the node comes before all remaining nodes
abbrev pub TakesFirst : OrderBy → Network → ℕ → List ℕ → (ℕ → Legs) → Type 0
TakesFirst by g h order L = (i x : ℕ) → i < g.nodes → x < g.nodes → (Contains (take i order) x → ⊥) →
    (p q : ℤ) × IsPriorityAfter by g.nodes h order L i (slice_index order i) p × IsPriorityAfter by g.nodes h order L i x q
    × IsContractedBefore p (slice_index order i) q x
