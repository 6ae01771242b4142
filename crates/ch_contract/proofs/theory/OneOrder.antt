-- Each order names one hierarchy.
use Rattle.std.proofs.Common.{[]}
use Rattle.ch_contract.specs.declared.measure.OrderBy.TheVariants.{Difference, Depth}
use Rattle.ch_contract.specs.OneOrder.{RulesNameOneHierarchy}
use Rattle.ch_contract.proofs.theory.GivenOrders.{from_in_turn}
use Rattle.ch_contract.proofs.theory.OneInTurn.{one_hierarchy_from}

-- two hierarchies of a graph in the same order are equal
pub one_hierarchy : RulesNameOneHierarchy
one_hierarchy Difference g h H K p q =
    one_hierarchy_from Difference g h [] H K (from_in_turn Difference g h H p) (from_in_turn Difference g h K q)
one_hierarchy Depth g h H K p q = one_hierarchy_from Depth g h [] H K (from_in_turn Depth g h H p) (from_in_turn Depth g h K q)
