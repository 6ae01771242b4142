-- The arrays have the rows of the whole topology.
use Rattle.std.proofs.Common.{refl, ◌∙◌, arith}
use Rattle.ch_custom.proofs.theory.StepPairs.{taken_here}
use Rattle.ch_custom.proofs.theory.Steps.{sound_rows}
use Rattle.ch_custom.proofs.customizing.lower_over.Goals as goal

pub lower_with-requires-clause-own : goal.lower_with-requires-clause-own
lower_with-requires-clause-own c = sound_rows _ _ _ c.requires.ready

pub lower_with-requires-clause-taken : goal.lower_with-requires-clause-taken
lower_with-requires-clause-taken c =
    taken_here c.args.graph.now c.args.order.now c.args.rows.now c.nodes-nodes.ensures.limits c.requires.ready c.args.rows.now
    c.args.place c.args.place c.requires.place (omega arith) refl c.args.metric.now c.requires.metric _
    (c.as_slice.ensures.value ∙ c.in_ok-copy_row.ensures)
