-- An order and legs without any of the seven faults name a hierarchy that is right for the graph.
use Rattle.ch_hierarchy.proofs.theory.Faultless.{faultless_kept}
use Rattle.ch_hierarchy.proofs.laws.saved.faultless_is_kept.Goals as goal

pub returns : goal.returns
returns c = faultless_kept
