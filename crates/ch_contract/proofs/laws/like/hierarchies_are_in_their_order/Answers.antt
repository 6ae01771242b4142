-- A hierarchy by difference or by depth is the one in the order of its levels.
use Rattle.ch_contract.proofs.theory.GivenOrders.{in_their_order}
use Rattle.ch_contract.proofs.laws.like.hierarchies_are_in_their_order.Goals as goal

pub returns : goal.returns
returns c = in_their_order
