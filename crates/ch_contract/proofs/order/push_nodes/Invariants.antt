-- The list has grown by the nodes of the legs before the current one that are not nodes of the other legs.
use Rattle.std.proofs.Common.{◌≡◌, ◌++◌, take}
use Rattle.ch_contract.specs.Neighbours.{other_nodes}
use Rattle.ch_contract.proofs.order.push_nodes.Given as goal

abbrev pub invariant-loop-leg : goal.invariant-loop-leg
invariant-loop-leg l = l.list.items ≡ l.fn.list.items ++ other_nodes l.others (take l.leg-index l.legs)
