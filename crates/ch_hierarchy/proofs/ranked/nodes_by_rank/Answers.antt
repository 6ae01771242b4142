-- One more node is at its rank, and since no two nodes share a rank, in the end each rank has its node.
use Rattle.std.proofs.Common.{arith}
use Rattle.ch_hierarchy.proofs.code.Ranked.{rank_in_below, one_by_rank, all_by_rank}
use Rattle.ch_hierarchy.proofs.ranked.nodes_by_rank.Goals as goal

pub index_mut-requires : goal.index_mut-requires
index_mut-requires c = let below = rank_in_below c.args.levels.now c.requires.levels c.loop-node.node c.loop-node-test.true in
    omega (arith, below, c.loop-node.invariant.count)

pub loop-node-preserved : goal.loop-node-preserved
loop-node-preserved c =
    one_by_rank c.args.levels.now c.requires.levels c.loop-node.nodes.items c.loop-node.node c.loop-node.invariant c.loop-node-test.true

pub returns : goal.returns
returns c =
    all_by_rank c.args.levels.now c.requires.levels c.loop-node.nodes.items c.loop-node.node c.loop-node.invariant c.loop-node-test.false
