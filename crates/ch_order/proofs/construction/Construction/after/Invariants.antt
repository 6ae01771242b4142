-- The given nodes before the current one are contracted in their order.
use Rattle.std.proofs.Common.{take}
use Rattle.ch_order.specs.Construction.{HasGiven}
use Rattle.ch_order.proofs.construction.Construction.after.Given as goal

abbrev pub invariant-loop-node : goal.invariant-loop-node
invariant-loop-node g l = HasGiven l.graph l.hops.number (take l.node-index l.nodes) l.construction
