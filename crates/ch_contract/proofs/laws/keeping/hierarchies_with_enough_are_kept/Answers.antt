-- A hierarchy of nodes contracted in any order with enough shortcuts is kept for its graph.
use Rattle.ch_contract.proofs.theory.EnoughKept.{hierarchies_with_enough_kept}
use Rattle.ch_contract.proofs.laws.keeping.hierarchies_with_enough_are_kept.Goals as goal

pub returns : goal.returns
returns c = hierarchies_with_enough_kept
