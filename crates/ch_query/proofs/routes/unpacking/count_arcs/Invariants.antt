-- The arcs of the legs before the current one were counted.
use Rattle.std.proofs.Common.{◌≡◌, take}
use Rattle.ch_query.specs.Unpacking.{pending_arcs}
use Rattle.ch_query.proofs.routes.unpacking.count_arcs.Given as goal

abbrev pub invariant-loop-leg : goal.invariant-loop-leg
invariant-loop-leg l = l.arcs ≡ pending_arcs (take l.leg-index l.legs)
