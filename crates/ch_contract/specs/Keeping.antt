-- Contraction keeps the least costs between the remaining nodes. That is why the hierarchy is right for its graph.
use Rattle.std.specs.Prelude.{◌≡◌, ℕ, ◌<◌, ◌≤◌, List, take, Contains}
use Rattle.ch_graph.specs.declared.cost.Cost.{Cost}
use Rattle.ch_graph.specs.Cost.{IsAtMost}
use Rattle.ch_graph.specs.Graph.{Network, IsWithinLimits}
use Rattle.ch_graph.specs.Walk.{IsLeast}
use Rattle.ch_contract.specs.declared.measure.OrderBy.{OrderBy}
use Rattle.ch_contract.specs.Legs.{Legs, IsChain, chain_cost, IsHopBound}
use Rattle.ch_contract.specs.Enough.{ContractsWithEnough}
use Rattle.ch_contract.specs.Order.{AreTaken, AreContracted}
use Rattle.ch_hierarchy.specs.Hierarchy.{LevelsAndLegs}
use Rattle.ch_contract.specs.Built.{IsHierarchyIn, IsHierarchyBy}
use Rattle.ch_hierarchy.specs.Kept.{IsKept}

-- c is the least cost of a chain of legs from u to w
pub record IsLeastChain (L : Legs) (u w : ℕ) (c : Cost) : Type 0 where
  pub chain : (xs : List ℕ) × IsChain L u w xs × (chain_cost L u xs ≡ c)
  pub least : (xs : List ℕ) → IsChain L u w xs → IsAtMost c (chain_cost L u xs)

-- x is a node, and is not among the first i nodes of the order
abbrev pub IsLeft : Network → List ℕ → ℕ → ℕ → Type 0
IsLeft g order i x = (x < g.nodes) × (Contains (take i order) x → ⊥)

-- after any number of steps, the least cost of a walk between two remaining nodes is the least cost of a chain of legs
abbrev pub AreLeastCostsKept : Network → List ℕ → (ℕ → Legs) → Type 0
AreLeastCostsKept g order L =
    (i u w : ℕ) (c : Cost) → i ≤ g.nodes → IsLeft g order i u → IsLeft g order i w → IsLeast g u w c → IsLeastChain (L i) u w c

-- contraction in any order keeps the least costs
abbrev pub ContractionKeepsLeastCosts : Type 0
ContractionKeepsLeastCosts = (g : Network) (h : ℕ) (order : List ℕ) (L : ℕ → Legs) → IsWithinLimits g → IsHopBound h →
    AreContracted g h order L → AreLeastCostsKept g order L

-- contraction in any order with enough shortcuts keeps the least costs; these may be more than are needed
abbrev pub EnoughKeepsLeastCosts : Type 0
EnoughKeepsLeastCosts = (g : Network) (h : ℕ) (order : List ℕ) (L : ℕ → Legs) → IsWithinLimits g →
    AreTaken (ContractsWithEnough g.nodes h) g order L → AreLeastCostsKept g order L

-- the contraction hierarchy of a graph is right for the graph, for each order and each bound on hops
abbrev pub HierarchiesAreKept : Type 0
HierarchiesAreKept =
    (by : OrderBy) (g : Network) (h : ℕ) (H : LevelsAndLegs) → IsWithinLimits g → IsHopBound h → IsHierarchyBy by g h H → IsKept g H

-- each hierarchy of nodes that are contracted in any order with enough shortcuts is right for the graph
abbrev pub HierarchiesWithEnoughAreKept : Type 0
HierarchiesWithEnoughAreKept = (g : Network) (h : ℕ) (H : LevelsAndLegs) (order : List ℕ) (L : ℕ → Legs) → IsWithinLimits g →
    IsHierarchyIn (ContractsWithEnough g.nodes h) g H order L → IsKept g H
