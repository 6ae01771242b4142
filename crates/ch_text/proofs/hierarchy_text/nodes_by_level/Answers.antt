-- With each node at the place of its level, the nodes are in order of level.
use Rattle.std.proofs.Common.{arith}
use Rattle.ch_text.proofs.Saving.{all_placed}
use Rattle.ch_text.proofs.hierarchy_text.nodes_by_level.Goals as goal

pub returns-clause-order : goal.returns-clause-order
returns-clause-order c = all_placed c.args.hierarchy.now c.nodes-nodes.ensures.levelled c.loop-node.order.items c.loop-node.node
    c.loop-node.invariant (let size = c.nodes-nodes.ensures.nodes in let past = c.loop-node-test.false in omega arith)
