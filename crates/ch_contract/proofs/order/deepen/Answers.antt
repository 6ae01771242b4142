-- One more node gets a depth of at least one more than that of the contracted node, and no other depth changes.
use Rattle.std.proofs.Common.{◌<◌, length, get_or, arith}
use Rattle.ch_contract.proofs.code.Neighbours.{deepened_more}
use Rattle.ch_contract.proofs.order.deepen.Goals as goal

pub loop-node-preserved : goal.loop-node-preserved
loop-node-preserved c =
    let nodes = c.args.nodes.now in
    let i = c.loop-node.node-index in
    let known = c.loop-node.invariant in
    let size = known.size in
    let node = c.requires.nodes i 0 c.loop-node-test.true in
    let within : get_or nodes i 0 < length c.loop-node.depths = omega arith in
    rw (c.max.ensures) (deepened_more nodes i _ _ _ c.loop-node-test.true within known)
