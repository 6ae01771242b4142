-- The contraction hierarchy of a graph within the limits is kept for this graph.
use Rattle.ch_contract.proofs.theory.BuiltKept.{hierarchies_kept}
use Rattle.ch_contract.proofs.laws.keeping.hierarchies_are_kept.Goals as goal

pub returns : goal.returns
returns c = hierarchies_kept
