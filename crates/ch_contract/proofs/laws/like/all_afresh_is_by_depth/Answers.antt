-- If all nodes are ordered afresh, the hierarchy is the one by depth.
use Rattle.ch_contract.proofs.theory.GivenOrders.{all_afresh}
use Rattle.ch_contract.proofs.laws.like.all_afresh_is_by_depth.Goals as goal

pub returns : goal.returns
returns c = all_afresh
