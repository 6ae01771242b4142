-- Lowering makes no leg outside a topology.
use Rattle.ch_custom.proofs.theory.Customizing.{legs_stay_in_topologies}
use Rattle.ch_custom.proofs.laws.customizing.legs_stay_in_topologies.Goals as goal

pub returns : goal.returns
returns c g order L rows limits taken topology k le = legs_stay_in_topologies g order L rows limits taken topology k le
