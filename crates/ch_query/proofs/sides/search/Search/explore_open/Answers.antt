-- The node of the least key can be settled, is found unless it is idle, and leaves one node fewer to settle.
use Rattle.std.proofs.Common.{arith}
use Rattle.ch_query.proofs.one_side.Popping.{key_rank, popped_at, pop_expands, pop_falls}
use Rattle.ch_query.proofs.routing.SearchTrees.{unstalled_push, unstalled_skip}
use Rattle.ch_query.proofs.sides.search.Search.explore_open.Goals as goal

pub node_at-node-requires : goal.node_at-node-requires
node_at-node-requires c = key_rank _ _ _ _ _ c.loop-cost.invariant.underway c.in-Some.ensures.least

pub settle_open-requires-clause-expanding : goal.settle_open-requires-clause-expanding
settle_open-requires-clause-expanding c =
    let underway = c.loop-cost.invariant.underway in
    pop_expands _ _ _ _ _ _ underway (popped_at _ _ _ _ _ _ _ underway c.node_at-node.ensures.node c.node_at-node.ensures.rank
    c.in-Some.ensures.least c.in-Some.ensures.rest)

pub loop-cost-smaller : goal.loop-cost-smaller
loop-cost-smaller c =
    let underway = c.loop-cost.invariant.underway in
    let falls = pop_falls _ _ _ _ _ _ underway (popped_at _ _ _ _ _ _ _ underway c.node_at-node.ensures.node c.node_at-node.ensures.rank
    c.in-Some.ensures.least c.in-Some.ensures.rest) in
    let same = c.settle_open.ensures.measure in
    omega arith

pub loop-cost-smaller-in-Continue-1 : goal.loop-cost-smaller-in-Continue-1
loop-cost-smaller-in-Continue-1 c =
    let underway = c.loop-cost.invariant.underway in
    let falls = pop_falls _ _ _ _ _ _ underway (popped_at _ _ _ _ _ _ _ underway c.node_at-node.ensures.node c.node_at-node.ensures.rank
    c.in-Some.ensures.least c.in-Some.ensures.rest) in
    let same = c.settle_open.ensures.measure in
    omega arith

pub loop-cost-preserved : goal.loop-cost-preserved
loop-cost-preserved c =
    let H = c.args.hierarchy.now in
    let before = c.loop-cost.invariant in
    let after = c.settle_open.ensures in
    let popped = popped_at H _ c.loop-cost.self _ _ _ _ before.underway c.node_at-node.ensures.node c.node_at-node.ensures.rank
    c.in-Some.ensures.least c.in-Some.ensures.rest in
    record {
      underway = after.underway;
      unstalled = unstalled_skip H _ c.loop-cost.self _ _ _ before.underway popped c.settle_open.new.self after.settled
          c.loop-cost.found.items before.unstalled (after.stalled c.if-settle_open.false);
    }

pub loop-cost-preserved-in-Continue-1 : goal.loop-cost-preserved-in-Continue-1
loop-cost-preserved-in-Continue-1 c =
    let H = c.args.hierarchy.now in
    let before = c.loop-cost.invariant in
    let after = c.settle_open.ensures in
    let popped = popped_at H _ c.loop-cost.self _ _ _ _ before.underway c.node_at-node.ensures.node c.node_at-node.ensures.rank
    c.in-Some.ensures.least c.in-Some.ensures.rest in
    record {
      underway = after.underway;
      unstalled = unstalled_push H _ c.loop-cost.self _ _ _ before.underway popped c.settle_open.new.self after.settled
          c.loop-cost.found.items _ c.in-Some.rank before.unstalled
          (key_rank _ _ _ _ _ before.underway c.in-Some.ensures.least) c.node_at-node.ensures.rank c.in_ok-push.ensures.items;
    }
