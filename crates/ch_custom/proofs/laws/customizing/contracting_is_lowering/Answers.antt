-- Contraction where a witness has one leg is lowering.
use Rattle.ch_custom.proofs.theory.Customizing.{contracting_is_lowering}
use Rattle.ch_custom.proofs.laws.customizing.contracting_is_lowering.Goals as goal

pub returns : goal.returns
returns c n L v M limits = contracting_is_lowering n L v M limits
