-- The hierarchy that contraction makes, in each order.
use Rattle.std.specs.Prelude.{◌≡◌, ℕ, ◌+◌, ◌<◌, List, length, slice_index}
use Rattle.ch_graph.specs.Graph.{Network}
use Rattle.ch_hierarchy.specs.Hierarchy.{LevelsAndLegs}
use Rattle.ch_hierarchy.specs.Rows.{row}
use Rattle.ch_contract.specs.declared.measure.OrderBy.{OrderBy}
use Rattle.ch_contract.specs.declared.measure.OrderBy.TheVariants.{Difference, Depth}
use Rattle.ch_contract.specs.Legs.{Legs}
use Rattle.ch_contract.specs.Contraction.{Contracts}
use Rattle.ch_contract.specs.Order.{AreTaken, TakesFirst}
use Rattle.ch_contract.specs.LegRows.{AreLegsFrom, AreLegsTo}

-- nodes are taken in any order: order[i] has level i + 1. Its up legs are the legs from it just before it is
-- taken, and its down legs the legs to it
pub record IsHierarchyIn (IsStep : Legs → ℕ → Legs → Type 0) (g : Network) (H : LevelsAndLegs) (order : List ℕ)
    (L : ℕ → Legs) : Type 0 where
  pub contracted : AreTaken IsStep g order L
  pub sizes : (length H.level ≡ g.nodes) × (length H.up ≡ g.nodes) × (length H.down ≡ g.nodes)
  pub level : (i : ℕ) → i < g.nodes → slice_index H.level (slice_index order i) ≡ i + 1
  pub up : (i : ℕ) → i < g.nodes → AreLegsFrom (L i) (slice_index order i) (row H.up (slice_index order i))
  pub down : (i : ℕ) → i < g.nodes → AreLegsTo (L i) (slice_index order i) (row H.down (slice_index order i))

-- the hierarchy of nodes that are contracted in any order
abbrev pub IsHierarchyOf : Network → ℕ → LevelsAndLegs → List ℕ → (ℕ → Legs) → Type 0
IsHierarchyOf g h H order L = IsHierarchyIn (Contracts g.nodes h) g H order L

-- the contraction hierarchy of nodes that are contracted one after the other, each time the first in this order
abbrev pub IsHierarchyInTurn : OrderBy → Network → ℕ → LevelsAndLegs → Type 0
IsHierarchyInTurn by g h H = (order : List ℕ) × (L : ℕ → Legs) × IsHierarchyOf g h H order L × TakesFirst by g h order L

-- the contraction hierarchy of a graph in this order, where a witness has at most h legs
abbrev pub IsHierarchyBy : OrderBy → Network → ℕ → LevelsAndLegs → Type 0
IsHierarchyBy Difference g h H = IsHierarchyInTurn Difference g h H
IsHierarchyBy Depth g h H = IsHierarchyInTurn Depth g h H

-- the contraction hierarchy by the number of shortcuts less the number of legs
abbrev pub IsHierarchy : Network → ℕ → LevelsAndLegs → Type 0
IsHierarchy g h H = IsHierarchyBy Difference g h H
