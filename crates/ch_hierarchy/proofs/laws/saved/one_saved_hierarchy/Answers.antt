-- A saved order and legs name at most one hierarchy.
use Rattle.ch_hierarchy.proofs.theory.OneSaved.{one_saved}
use Rattle.ch_hierarchy.proofs.laws.saved.one_saved_hierarchy.Goals as goal

pub returns : goal.returns
returns c = one_saved
