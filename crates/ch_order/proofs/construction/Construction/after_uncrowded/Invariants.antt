-- The given nodes before the current one are contracted in their order, and none of them was crowded.
use Rattle.std.proofs.Common.{take}
use Rattle.ch_order.specs.Construction.{HasGiven}
use Rattle.ch_order.proofs.GivenCalls.{AreFew}
use Rattle.ch_order.proofs.construction.Construction.after_uncrowded.Given as goal

abbrev pub invariant-loop-node : goal.invariant-loop-node
invariant-loop-node g l =
    HasGiven l.graph l.hops.number (take l.node-index l.nodes) l.construction × AreFew l.graph l.hops.number l.nodes l.node-index
