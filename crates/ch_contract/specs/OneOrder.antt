-- The rules name one hierarchy for each order, and each graph has it.
use Rattle.std.specs.Prelude.{◌≡◌, ℕ, List}
use Rattle.ch_graph.specs.Graph.{Network, IsWithinLimits}
use Rattle.ch_contract.specs.declared.measure.OrderBy.{OrderBy}
use Rattle.ch_hierarchy.specs.Hierarchy.{LevelsAndLegs}
use Rattle.ch_contract.specs.Legs.{IsHopBound}
use Rattle.ch_contract.specs.Built.{IsHierarchyBy}
use Rattle.ch_contract.specs.Like.{IsHierarchyFrom, IsHierarchyInOrder}

-- two hierarchies of a graph in the same order and with the same bound on the legs of a witness are equal
abbrev pub RulesNameOneHierarchy : Type 0
RulesNameOneHierarchy = (by : OrderBy) (g : Network) (h : ℕ) (H K : LevelsAndLegs) → IsHierarchyBy by g h H → IsHierarchyBy by g h K → H ≡ K

-- two hierarchies of a graph with the same given nodes, then in the same order, and with the same bound on the legs of a
-- witness are equal
abbrev pub GivenNodesNameOneHierarchy : Type 0
GivenNodesNameOneHierarchy = (by : OrderBy) (g : Network) (h : ℕ) (given : List ℕ) (H K : LevelsAndLegs) →
    IsHierarchyFrom by g h given H → IsHierarchyFrom by g h given K → H ≡ K

-- two hierarchies of a graph whose nodes are contracted in the same list, with the same bound on the legs of a witness, are
-- equal
abbrev pub OrdersNameOneHierarchy : Type 0
OrdersNameOneHierarchy =
    (g : Network) (h : ℕ) (order : List ℕ) (H K : LevelsAndLegs) → IsHierarchyInOrder g h order H → IsHierarchyInOrder g h order K → H ≡ K

-- each graph has a hierarchy in each order, for each bound on hops
abbrev pub GraphsHaveHierarchies : Type 0
GraphsHaveHierarchies =
    (by : OrderBy) (g : Network) (h : ℕ) → IsWithinLimits g → IsHopBound h → (H : LevelsAndLegs) × IsHierarchyBy by g h H
