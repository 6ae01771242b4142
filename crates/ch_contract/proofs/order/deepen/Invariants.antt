-- The nodes before the current one have a depth of at least one more than that of the contracted node.
use Rattle.std.proofs.Common.{◌+◌, take}
use Rattle.std.specs.Prelude.{slice_index}
use Rattle.ch_contract.specs.Measures.{AreDeepened}
use Rattle.ch_contract.proofs.order.deepen.Given as goal

abbrev pub invariant-loop-node : goal.invariant-loop-node
invariant-loop-node l = AreDeepened (take l.node-index l.nodes) (slice_index l.fn.depths l.contracted + 1) l.fn.depths l.depths
