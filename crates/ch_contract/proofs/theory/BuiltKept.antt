-- The contraction hierarchy in each order is kept.
use Rattle.std.proofs.Common.{ℕ}
use Rattle.ch_graph.specs.Graph.{Network, IsWithinLimits}
use Rattle.ch_hierarchy.specs.Hierarchy.{LevelsAndLegs}
use Rattle.ch_hierarchy.specs.Kept.{IsKept}
use Rattle.ch_contract.specs.declared.measure.OrderBy.{OrderBy}
use Rattle.ch_contract.specs.declared.measure.OrderBy.TheVariants.{Difference, Depth}
use Rattle.ch_contract.specs.Legs.{IsHopBound}
use Rattle.ch_contract.specs.Built.{IsHierarchyInTurn}
use Rattle.ch_contract.specs.Keeping.{HierarchiesAreKept}
use Rattle.ch_contract.proofs.theory.Enough.{hierarchy_with_enough}
use Rattle.ch_contract.proofs.theory.EnoughKept.{hierarchies_with_enough_kept}

-- the hierarchy of nodes that are contracted one after the other is kept
pub in_turn_kept : (by : OrderBy) (g : Network) (h : ℕ) (H : LevelsAndLegs) → IsWithinLimits g → IsHopBound h → IsHierarchyInTurn by g h H →
    IsKept g H
in_turn_kept by g h H limits hops is =
    hierarchies_with_enough_kept g h H is.0 is.1 limits (hierarchy_with_enough g h H is.0 is.1 limits hops is.2)

-- the hierarchy in each order is kept
pub hierarchies_kept : HierarchiesAreKept
hierarchies_kept Difference g h H limits hops is = in_turn_kept Difference g h H limits hops is
hierarchies_kept Depth g h H limits hops is = in_turn_kept Depth g h H limits hops is
