-- Each mark that is no tie leads to the only node before on a least path, which is lower, so the way ends at the source.
use Rattle.std.proofs.Common.{◌∙◌, ap, ◌++◌, ◌∷◌, []}
use Rattle.std.specs.Prelude.{slice_index}
use Rattle.ch_hierarchy.specs.Side.{state_of}
use Rattle.ch_query.proofs.routing.MarkedSteps.{back_starts, back_ends, back_within, mark_within, low_has, low_lower, back_step}
use Rattle.ch_query.proofs.routes.unique.descend_marked.Goals as goal

pub loop-node-init : goal.loop-node-init
loop-node-init c =
    let b = c.requires.back in
    (b.0.weight, b.2, back_starts c.args.hierarchy.now c.args.side c.args.source c.args.meet c.args.marks.now c.args.legs.now.items b)

pub rank-requires : goal.rank-requires
rank-requires c =
    let t = c.loop-node.invariant in
    back_within c.args.hierarchy.now c.requires.kept c.args.side c.args.source c.args.meet c.loop-node.node t.0 c.args.marks.now t.1 _ _ t.2
    c.loop-node-test.true

pub node_at-low-requires : goal.node_at-low-requires
node_at-low-requires c =
    let t = c.loop-node.invariant in
    let at = c.state.ensures ∙ ap (state_of c.args.side) c.rank.ensures.rank in
    let read = ap (slice_index c.args.marks.now) at in
    mark_within c.args.hierarchy.now c.requires.kept c.args.side c.args.source c.args.meet c.loop-node.node t.0 c.args.marks.now t.1 _ _ t.2
    c.loop-node-test.true (slice_index c.args.marks.now c.state.result) read c.if-mark.false

pub leg_at-leg-requires : goal.leg_at-leg-requires
leg_at-leg-requires c =
    let t = c.loop-node.invariant in
    let at = c.state.ensures ∙ ap (state_of c.args.side) c.rank.ensures.rank in
    let read = ap (slice_index c.args.marks.now) at in
    low_has c.args.hierarchy.now c.requires.kept c.args.side c.args.source c.args.meet c.loop-node.node t.0 c.args.marks.now t.1 _ _ t.2
    c.loop-node-test.true (slice_index c.args.marks.now c.state.result) read c.if-mark.false c.node_at-low.result c.node_at-low.ensures.node
    c.node_at-low.ensures.rank c.legs.result.now c.legs.ensures.row

pub loop-node-smaller : goal.loop-node-smaller
loop-node-smaller c =
    let t = c.loop-node.invariant in
    let at = c.state.ensures ∙ ap (state_of c.args.side) c.rank.ensures.rank in
    let read = ap (slice_index c.args.marks.now) at in
    low_lower c.args.hierarchy.now c.requires.kept c.args.side c.args.source c.args.meet c.loop-node.node t.0 c.args.marks.now t.1 _ _ t.2
    c.loop-node-test.true (slice_index c.args.marks.now c.state.result) read c.if-mark.false c.node_at-low.result c.node_at-low.ensures.node
    c.node_at-low.ensures.rank c.leg_at-leg.result c.legs.result.now c.legs.ensures.row c.leg_at-leg.ensures

pub loop-node-preserved : goal.loop-node-preserved
loop-node-preserved c =
    let t = c.loop-node.invariant in
    let at = c.state.ensures ∙ ap (state_of c.args.side) c.rank.ensures.rank in
    let read = ap (slice_index c.args.marks.now) at in
    let pushed = c.push.ensures in
    let same = c.directed.ensures in (
      t.0,
      t.1,
      back_step c.args.hierarchy.now c.requires.kept c.args.side c.args.source c.args.meet c.loop-node.node t.0 c.args.marks.now t.1 _ _ t.2
          c.loop-node-test.true (slice_index c.args.marks.now c.state.result) read c.if-mark.false c.node_at-low.result
          c.node_at-low.ensures.node
          c.node_at-low.ensures.rank c.leg_at-leg.result c.legs.result.now c.legs.ensures.row c.leg_at-leg.ensures
          c.push.new.self.items (c.in_ok-push.ensures.items ∙ ap (λ p. c.loop-node.legs.items ++ p ∷ []) same),
    )

pub returns : goal.returns
returns c _ =
    let t = c.loop-node.invariant in
    back_ends c.args.hierarchy.now c.requires.kept c.args.side c.args.source c.args.meet c.loop-node.node t.0 c.args.marks.now t.1 _ _ t.2
    c.loop-node-test.false
