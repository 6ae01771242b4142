-- Two hierarchies of a graph whose nodes are contracted in the same order are equal.
use Rattle.ch_contract.proofs.theory.OneInTurn.{one_hierarchy_in_order as same}
use Rattle.ch_contract.proofs.laws.like.one_hierarchy_in_order.Goals as goal

pub returns : goal.returns
returns c = same
