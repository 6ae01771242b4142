-- Two hierarchies in the same order for a graph and a bound on witnesses are equal.
use Rattle.ch_contract.proofs.theory.OneOrder.{one_hierarchy}
use Rattle.ch_contract.proofs.laws.one_order.one_hierarchy.Goals as goal

pub returns : goal.returns
returns c by g h H K p q = one_hierarchy by g h H K p q
