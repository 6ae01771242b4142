-- The hierarchy of lowered legs is a contraction hierarchy.
use Rattle.ch_custom.proofs.theory.Customizing.{lowered_are_contracted}
use Rattle.ch_custom.proofs.laws.customizing.lowered_are_contracted.Goals as goal

pub returns : goal.returns
returns c g order H L limits is = lowered_are_contracted g order H L limits is
