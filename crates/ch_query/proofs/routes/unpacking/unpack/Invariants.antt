-- The arcs so far and those of the pending legs are the arcs of all legs, and each turn leaves fewer legs to unpack.
use Rattle.ch_query.proofs.routing.PendingLegs.{unpackings}
use Rattle.ch_query.proofs.routing.UnpackingSteps.{IsPartlyUnpacked}
use Rattle.ch_query.proofs.routes.unpacking.unpack.Given as goal

abbrev pub invariant-loop-leg : goal.invariant-loop-leg
invariant-loop-leg l = IsPartlyUnpacked l.hierarchy l.fn.pending.items l.pending l.arcs

abbrev pub decreases-loop-leg : goal.decreases-loop-leg
decreases-loop-leg l = unpackings l.pending.items
