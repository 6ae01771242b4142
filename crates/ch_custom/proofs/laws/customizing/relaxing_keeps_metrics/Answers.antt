-- One step keeps the legs of a topology right.
use Rattle.ch_custom.proofs.theory.Relaxing.{relaxing_keeps_metrics}
use Rattle.ch_custom.proofs.laws.customizing.relaxing_keeps_metrics.Goals as goal

pub returns : goal.returns
returns c n order rows T k firsts seconds old new small single higher low stays one two metric relaxed =
    relaxing_keeps_metrics n order rows T k firsts seconds old new small single higher low stays one two metric relaxed
