-- The legs that are left are walks, and no least way is lost.
use Rattle.ch_custom.proofs.theory.Pruned.{pruned_are_kept}
use Rattle.ch_custom.proofs.laws.pruning.pruned_are_kept.Goals as goal

pub returns : goal.returns
returns c = pruned_are_kept
