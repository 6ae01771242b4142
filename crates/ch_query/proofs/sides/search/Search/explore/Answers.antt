-- The node of the least key can be settled, and leaves one node fewer to settle.
use Rattle.std.proofs.Common.{arith}
use Rattle.ch_query.proofs.one_side.Popping.{key_rank, popped_at, pop_expands, pop_falls}
use Rattle.ch_query.proofs.sides.search.Search.explore.Goals as goal

pub node_at-requires : goal.node_at-requires
node_at-requires c = key_rank _ _ _ _ _ c.loop-cost.invariant c.in-Some.ensures.least

pub settle-requires-clause-expanding : goal.settle-requires-clause-expanding
settle-requires-clause-expanding c =
    let underway = c.loop-cost.invariant in
    pop_expands _ _ _ _ _ _ underway (popped_at _ _ _ _ _ _ _ underway c.node_at.ensures.node c.node_at.ensures.rank
    c.in-Some.ensures.least c.in-Some.ensures.rest)

pub loop-cost-smaller : goal.loop-cost-smaller
loop-cost-smaller c =
    let underway = c.loop-cost.invariant in
    let falls = pop_falls _ _ _ _ _ _ underway (popped_at _ _ _ _ _ _ _ underway c.node_at.ensures.node c.node_at.ensures.rank
    c.in-Some.ensures.least c.in-Some.ensures.rest) in
    let same = c.settle.ensures.measure in
    omega arith
