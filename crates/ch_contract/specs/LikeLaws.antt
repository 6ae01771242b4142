-- Laws on orders like given ones.
use Rattle.std.specs.Prelude.{◌↔◌, ℕ, List}
use Rattle.ch_graph.specs.Graph.{Network, IsWithinLimits}
use Rattle.ch_hierarchy.specs.Hierarchy.{LevelsAndLegs}
use Rattle.ch_hierarchy.specs.Kept.{IsKept}
use Rattle.ch_hierarchy.specs.Saved.{IsOrderOf, AreLevelsOf}
use Rattle.ch_contract.specs.declared.measure.OrderBy.{OrderBy}
use Rattle.ch_contract.specs.declared.measure.OrderBy.TheVariants.{Depth}
use Rattle.ch_contract.specs.Legs.{IsHopBound}
use Rattle.ch_contract.specs.Built.{IsHierarchyBy, IsHierarchyInTurn}
use Rattle.ch_contract.specs.Like.{IsHierarchyFrom, IsHierarchyLike, IsHierarchyInOrder}

-- a hierarchy with given nodes is right for its graph, for each order of the others and each bound on hops
abbrev pub HierarchiesFromGivenNodesAreKept : Type 0
HierarchiesFromGivenNodesAreKept = (by : OrderBy) (g : Network) (h : ℕ) (given : List ℕ) (H : LevelsAndLegs) → IsWithinLimits g →
    IsHopBound h → IsHierarchyFrom by g h given H → IsKept g H

-- if all nodes are ordered afresh, it is the hierarchy by depth, whatever order is given
abbrev pub AllAfreshIsByDepth : Type 0
AllAfreshIsByDepth =
    (g : Network) (h : ℕ) (given : List ℕ) (H : LevelsAndLegs) → IsHierarchyLike g h given 100 H ↔ IsHierarchyBy Depth g h H

-- if no node is ordered afresh, it is the hierarchy in the given order
abbrev pub NoneAfreshIsAsGiven : Type 0
NoneAfreshIsAsGiven = (g : Network) (h : ℕ) (given : List ℕ) (H : LevelsAndLegs) → IsOrderOf g.nodes given →
    IsHierarchyLike g h given 0 H ↔ IsHierarchyInOrder g h given H

-- a hierarchy by difference or by depth is the one in the order of its levels
abbrev pub HierarchiesAreInTheirOrder : Type 0
HierarchiesAreInTheirOrder = (by : OrderBy) (g : Network) (h : ℕ) (order : List ℕ) (H : LevelsAndLegs) →
    IsHierarchyInTurn by g h H → IsOrderOf g.nodes order → AreLevelsOf order H.level → IsHierarchyInOrder g h order H

-- each graph has a hierarchy in an order like each given one
abbrev pub GraphsHaveHierarchiesLike : Type 0
GraphsHaveHierarchiesLike = (g : Network) (h : ℕ) (given : List ℕ) (fresh : ℕ) → IsWithinLimits g → IsHopBound h →
    IsOrderOf g.nodes given → (H : LevelsAndLegs) × IsHierarchyLike g h given fresh H
