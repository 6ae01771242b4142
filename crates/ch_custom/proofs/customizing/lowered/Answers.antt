-- The rows of a topology are sound.
use Rattle.ch_custom.proofs.theory.Steps.{sound_rows}
use Rattle.ch_custom.proofs.customizing.lowered.Goals as goal

pub put_arcs-requires-clause-ready : goal.put_arcs-requires-clause-ready
put_arcs-requires-clause-ready c = sound_rows _ _ _ c.requires.ready
