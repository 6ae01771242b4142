-- Rows that each hand their places on to their least one are closed.
use Rattle.ch_custom.proofs.theory.Customizing.{parents_close}
use Rattle.ch_custom.proofs.laws.customizing.parents_close.Goals as goal

pub returns : goal.returns
returns c n order rows parents k i j a b below p q = parents_close n order rows parents k i j a b below p q
