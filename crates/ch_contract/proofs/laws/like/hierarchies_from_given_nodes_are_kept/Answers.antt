-- A hierarchy with given nodes is kept for its graph.
use Rattle.ch_contract.proofs.theory.GivenOrders.{from_kept}
use Rattle.ch_contract.proofs.laws.like.hierarchies_from_given_nodes_are_kept.Goals as goal

pub returns : goal.returns
returns c = from_kept
