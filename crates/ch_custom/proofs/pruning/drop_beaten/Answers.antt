-- The legs that are left are the exact ones.
use Rattle.ch_custom.proofs.theory.Left.{left_start}
use Rattle.ch_custom.proofs.pruning.drop_beaten.Goals as goal

pub returns : goal.returns
returns c = left_start _ _ _ _ _ c.nodes-nodes.ensures.limits c.requires.ready c.requires.legs c.requires.metric c.drop_beaten.ensures
