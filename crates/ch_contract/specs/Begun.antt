-- Nodes that are contracted one after the other, in any order.
use Rattle.std.specs.Prelude.{◌≡◌, ◌≢◌, ℕ, ◌+◌, ◌<◌, List, length, slice_index, AllPairs, All}
use Rattle.ch_graph.specs.Graph.{Network}
use Rattle.ch_hierarchy.specs.declared.leg.Leg.{Leg}
use Rattle.ch_contract.specs.Legs.{Legs, SameLegs, opening}
use Rattle.ch_contract.specs.Contraction.{Contracts}

-- these are different nodes of g
abbrev pub AreDifferentNodes : Network → List ℕ → Type 0
AreDifferentNodes g nodes = All (λ v. v < g.nodes) nodes × AllPairs ◌≢◌ nodes

-- the nodes of this list are taken in its order; L i are the legs after the first i steps, and IsStep says how a step
-- changes them
pub record IsBegunBy (IsStep : Legs → ℕ → Legs → Type 0) (g : Network) (order : List ℕ) (L : ℕ → Legs) : Type 0 where
  pub nodes : AreDifferentNodes g order
  pub start : SameLegs (L 0) (opening g)
  pub step : (i : ℕ) → i < length order → IsStep (L i) (slice_index order i) (L (i + 1))

-- the nodes of this list are contracted in its order
abbrev pub IsBegun : Network → ℕ → List ℕ → (ℕ → Legs) → Type 0
IsBegun g h order L = IsBegunBy (Contracts g.nodes h) g order L

-- the level of each contracted node is the number of its step
abbrev pub AreLevels : List ℕ → List ℕ → Type 0
AreLevels order levels = (i : ℕ) → i < length order → slice_index levels (slice_index order i) ≡ i + 1

-- each contracted node has the row of its step; R says that a row has these legs of a node
abbrev pub AreRowsBy : (Legs → ℕ → List Leg → Type 0) → List ℕ → (ℕ → Legs) → (ℕ → List Leg) → Type 0
AreRowsBy R order L rows = (i : ℕ) → i < length order → R (L i) (slice_index order i) (rows (slice_index order i))
