-- Two hierarchies with the same given nodes and the same order of the others are equal.
use Rattle.ch_contract.proofs.theory.OneInTurn.{one_hierarchy_from}
use Rattle.ch_contract.proofs.laws.like.one_hierarchy_from_given_nodes.Goals as goal

pub returns : goal.returns
returns c = one_hierarchy_from
