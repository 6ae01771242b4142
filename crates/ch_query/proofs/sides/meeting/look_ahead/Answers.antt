-- The sum at the end of each leg counts, if both sides have reached it.
use Rattle.std.proofs.Common.{sym, subst, arith}
use Rattle.ch_hierarchy.proofs.code.Ranked.{rank_below}
use Rattle.ch_query.proofs.two_sides.MeetingSteps.{known_arcs, known_at, met_too, own_rank, rank_in_labels}
use Rattle.ch_query.specs.Meeting.{AreMeeting}
use Rattle.ch_query.proofs.sides.meeting.look_ahead.Goals.{in-Some, in_default}
use Rattle.ch_query.proofs.sides.meeting.look_ahead.Goals as goal

pub ranked_legs-leg-items-requires : goal.ranked_legs-leg-items-requires
ranked_legs-leg-items-requires c =
    let r = c.requires.rank in
    let within = rank_below c.args.hierarchy.now c.requires.here.levelled r.0 r.1 in
    let is = r.2 in
    omega arith

pub get-requires : goal.get-requires
get-requires c =
    let r = c.requires.rank in
    rank_in_labels c.args.hierarchy.now _ c.args.here.now _ c.requires.here
    (own_rank c.args.hierarchy.now c.requires.here.levelled c.args.question.side r.0 _ c.loop-leg.leg-index _
    (c.ranked_legs-leg-items.ensures.row r.0 r.1 (sym r.2)) c.loop-leg-test.true)

pub node_at-node-requires : goal.node_at-node-requires
node_at-node-requires c =
    let r = c.requires.rank in
    let own = own_rank c.args.hierarchy.now c.requires.here.levelled c.args.question.side r.0 c.ranked_legs-leg-items.result.now
    c.loop-leg.leg-index (record { rank = 0; arcs = 0; weight = 0 })
    (c.ranked_legs-leg-items.ensures.row r.0 r.1 (sym r.2)) c.loop-leg-test.true in
    let within = rank_below c.args.hierarchy.now c.requires.here.levelled own.0 own.1 in
    let is = own.2 in
    omega arith

pub met-lowered-requires-clause-cost : goal.met-lowered-requires-clause-cost
met-lowered-requires-clause-cost c =
    let node = c.node_at-node.ensures in
    known_arcs c.args.hierarchy.now _ c.args.here.now c.node_at-node.result _ c.requires.here
    (known_at c.args.hierarchy.now c.args.here.now _ _ (c.node_at-node.result, node.node, sym node.rank) (sym c.in-Some.ensures))

pub loop-leg-preserved : goal.loop-leg-preserved
loop-leg-preserved c = λ other meeting.
    let H = c.args.hierarchy.now in
    let q = c.args.question in
    let x = c.args.here.now in
    let y = c.args.there.now in
    let before = c.loop-leg.invariant other meeting in
    elim c.match-get.branch [
      | in-Some w ↦
          let node = w.node_at-node.ensures in
          subst (AreMeeting H q other x y) (sym w.lowered-is) (met_too H q other x y _ before w.node_at-node.result _
          (known_at H x _ _ (w.node_at-node.result, node.node, sym node.rank) (sym w.in-Some.ensures)) _ w.met-lowered.ensures)
      | in_default w ↦ subst (AreMeeting H q other x y) (sym w.lowered-is) before
    ]
