-- The weights of all nodes that are reached are the reach of the start.
use Rattle.std.proofs.Common.{map, take_all, sym, ◌∙◌, ap, subst}
use Rattle.ch_hierarchy.specs.Side.{rows_of}
use Rattle.ch_rows.specs.Buckets.{IsReach}
use Rattle.ch_rows.proofs.Reaches.{reach_of, weight_of}
use Rattle.ch_rows.proofs.buckets.reach.Goals as goal

pub returns-clause-reach : goal.returns-clause-reach
returns-clause-reach c =
    let a = c.args in
    let rows = rows_of a.hierarchy.now a.start.side in
    let reached = c.in_ok-reached.reached.items in
    let listed = c.deref-node-items.result.now in
    let all = c.loop-node.invariant ∙ ap (map weight_of) (take_all c.loop-node.node-index listed c.loop-node-test.false)
    ∙ ap (map weight_of) c.deref-node-items.ensures.value in
    subst (IsReach rows a.start.within a.start.source) (sym all)
    (reach_of rows a.start.within a.start.source reached c.in_ok-reached.ensures.spread)
