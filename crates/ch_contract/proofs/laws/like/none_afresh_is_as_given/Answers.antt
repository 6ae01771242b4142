-- If no node is ordered afresh, the hierarchy is the one in the given order.
use Rattle.ch_contract.proofs.theory.GivenOrders.{none_afresh}
use Rattle.ch_contract.proofs.laws.like.none_afresh_is_as_given.Goals as goal

pub returns : goal.returns
returns c = none_afresh
