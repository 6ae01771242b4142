-- A least walk to a higher node goes up first.
use Rattle.ch_custom.proofs.theory.Pruned.{kept_hierarchies_take_legs}
use Rattle.ch_custom.proofs.laws.pruning.kept_hierarchies_take_legs.Goals as goal

pub returns : goal.returns
returns c = kept_hierarchies_take_legs
