-- One more leg adds its arcs, and past the last leg all are counted.
use Rattle.std.proofs.Common.{◌∙◌, ap, take_all}
use Rattle.ch_query.specs.Unpacking.{pending_arcs}
use Rattle.ch_query.proofs.routes.unpacking.count_arcs.Goals as goal

pub returns : goal.returns
returns c = c.loop-leg.invariant ∙ ap pending_arcs (take_all c.loop-leg.leg-index c.args.legs.now c.loop-leg-test.false)
