-- The rows of a part are sound.
use Rattle.ch_custom.proofs.theory.Parts.{rows_in_part}
use Rattle.ch_custom.proofs.division.Division.lowered_part.Goals as goal

pub put_arcs-requires-clause-ready : goal.put_arcs-requires-clause-ready
put_arcs-requires-clause-ready c = rows_in_part _ _ _ c.requires.division.ready _ _ _ c.in_ok-own.ensures
