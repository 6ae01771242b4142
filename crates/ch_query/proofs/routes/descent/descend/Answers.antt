-- Each step back goes to a lower node that is reached, over a leg that is in its row, so it ends at the source.
use Rattle.std.proofs.Common.{◌∙◌, refl, ap, ◌++◌, ◌∷◌, [], arith}
use Rattle.ch_query.proofs.routing.DescentSteps.{node_at_within, read_parent, tracing_starts, tracing_ends, parent_within}
use Rattle.ch_query.proofs.routing.DescentSteps.{parent_has, parent_lower, room_for_leg, tracing_step}
use Rattle.ch_query.proofs.routes.descent.descend.Goals as goal

pub loop-node-init : goal.loop-node-init
loop-node-init c =
    let r = c.requires.reached in
    record {
      traced = (r.0, r.1, tracing_starts c.args.hierarchy.now _ c.args.search.now c.args.meet c.args.pending.now r);
      capacity =
          refl;
    }

pub rank-requires : goal.rank-requires
rank-requires c =
    let t = c.loop-node.invariant.traced in
    node_at_within c.args.hierarchy.now c.requires.kept _ _ _ _ t.0 t.1 _ _ t.2

pub parent-parent-requires : goal.parent-parent-requires
parent-parent-requires c =
    let t = c.loop-node.invariant.traced in
    let within = c.rank.ensures.within in
    let size = t.1.underway.sizes.2 in
    omega arith

pub legs-requires : goal.legs-requires
legs-requires c =
    let t = c.loop-node.invariant.traced in
    parent_within c.args.hierarchy.now c.requires.kept _ _ _ _ t.0 t.1 _ _ t.2 c.loop-node-test.true c.parent-parent.result
    (read_parent c.args.hierarchy.now c.requires.kept _ _ _ _ t.0 t.1 _ _ t.2 _ _ c.rank.ensures.rank c.parent-parent.ensures)

pub leg_at-leg-requires : goal.leg_at-leg-requires
leg_at-leg-requires c =
    let t = c.loop-node.invariant.traced in
    parent_has c.args.hierarchy.now c.requires.kept _ _ _ _ t.0 t.1 _ _ t.2 c.loop-node-test.true c.parent-parent.result
    (read_parent c.args.hierarchy.now c.requires.kept _ _ _ _ t.0 t.1 _ _ t.2 _ _ c.rank.ensures.rank c.parent-parent.ensures)
    c.legs.result.now c.legs.ensures.row

pub push_reserved-requires : goal.push_reserved-requires
push_reserved-requires c =
    let t = c.loop-node.invariant.traced in
    room_for_leg c.args.hierarchy.now c.requires.kept _ _ _ _ t.0 t.1 _ _ t.2 c.loop-node-test.true c.parent-parent.result
    (read_parent c.args.hierarchy.now c.requires.kept _ _ _ _ t.0 t.1 _ _ t.2 _ _ c.rank.ensures.rank c.parent-parent.ensures)
    c.leg_at-leg.result c.legs.result.now c.legs.ensures.row c.leg_at-leg.ensures

pub loop-node-smaller : goal.loop-node-smaller
loop-node-smaller c =
    let t = c.loop-node.invariant.traced in
    parent_lower c.args.hierarchy.now c.requires.kept _ _ _ _ t.0 t.1 _ _ t.2 c.loop-node-test.true c.parent-parent.result
    (read_parent c.args.hierarchy.now c.requires.kept _ _ _ _ t.0 t.1 _ _ t.2 _ _ c.rank.ensures.rank c.parent-parent.ensures)
    c.leg_at-leg.result c.legs.result.now c.legs.ensures.row c.leg_at-leg.ensures

pub loop-node-preserved : goal.loop-node-preserved
loop-node-preserved c =
    let i = c.loop-node.invariant in
    let t = i.traced in
    let pushed = c.push_reserved.ensures in
    let same = c.directed.ensures in
    record {
      traced = (
        t.0,
        t.1,
        tracing_step c.args.hierarchy.now c.requires.kept _ _ _ _ t.0 t.1 _ _ t.2 c.loop-node-test.true c.parent-parent.result
            (read_parent c.args.hierarchy.now c.requires.kept _ _ _ _ t.0 t.1 _ _ t.2 _ _ c.rank.ensures.rank c.parent-parent.ensures)
            c.leg_at-leg.result c.legs.result.now c.legs.ensures.row c.leg_at-leg.ensures c.push_reserved.new.self
            (pushed.items ∙ ap (λ p. c.loop-node.pending.items ++ p ∷ []) same) pushed.len pushed.capacity,
      );
      capacity = pushed.capacity ∙ i.capacity;
    }

pub returns-clause-traced : goal.returns-clause-traced
returns-clause-traced c =
    let t = c.loop-node.invariant.traced in
    tracing_ends c.args.hierarchy.now c.requires.kept _ _ _ _ t.0 t.1 _ _ t.2 c.loop-node-test.false
