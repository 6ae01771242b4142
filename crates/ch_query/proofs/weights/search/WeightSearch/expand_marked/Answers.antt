-- One more leg lowers the weight of its state or ties it, and past the last leg the state is done.
use Rattle.std.proofs.Common.{arith}
use Rattle.ch_hierarchy.proofs.code.Ranked.{node_of_rank}
use Rattle.ch_query.proofs.by_weight.LegsRead.{read_leg, read_rank, read_light, read_state, read_whole}
use Rattle.ch_query.proofs.by_weight.Marking.{partly_unmarked, marked_shows, marked_more, marked_whole}
use Rattle.ch_query.proofs.by_weight.Unreached.{unreached_here}
use Rattle.ch_query.proofs.by_weight.WeighingSteps.{partly_none, partly_more, partly_whole}
use Rattle.ch_query.proofs.weights.search.WeightSearch.expand_marked.Goals as goal

pub state-requires : goal.state-requires
state-requires c =
    let H = c.args.hierarchy.now in
    let k = c.ranked_legs-leg-items.ensures.levelled in
    let n = node_of_rank H k c.args.rank c.requires.rank in
    read_rank H k c.args.side n.0 _ _ _ (c.ranked_legs-leg-items.ensures.row n.0 n.1 n.2) c.loop-leg-test.true

pub overflow_add-weight : goal.overflow_add-weight
overflow_add-weight c =
    let H = c.args.hierarchy.now in
    let k = c.ranked_legs-leg-items.ensures.levelled in
    let n = node_of_rank H k c.args.rank c.requires.rank in
    let leg_light = read_light H k c.args.side n.0 c.ranked_legs-leg-items.result.now c.loop-leg.leg-index
    record { rank = 0; arcs = 0; weight = 0 }
    (c.ranked_legs-leg-items.ensures.row n.0 n.1 n.2) c.loop-leg-test.true in
    let here = (c.loop-leg.invariant.weighing n.0 n.1 n.2).weighing.here in
    let light = here.search.light n.0 _ here.here.0 in
    let most = here.search.limits in
    omega arith

pub relax_marked-requires-clause-state : goal.relax_marked-requires-clause-state
relax_marked-requires-clause-state c =
    let H = c.args.hierarchy.now in
    let k = c.ranked_legs-leg-items.ensures.levelled in
    let n = node_of_rank H k c.args.rank c.requires.rank in
    let r = read_leg H k c.args.side n.0 _ _ _ (c.ranked_legs-leg-items.ensures.row n.0 n.1 n.2) c.loop-leg-test.true in
    let state = read_state H k c.args.side c.args.side n.0 _ _ r.0 r.1 _ c.state.ensures in
    let below = state.1 in
    let size = (c.loop-leg.invariant.weighing n.0 n.1 n.2).weighing.sizes.known in
    omega arith

pub relax_marked-requires-clause-most : goal.relax_marked-requires-clause-most
relax_marked-requires-clause-most c =
    let n = node_of_rank c.args.hierarchy.now c.ranked_legs-leg-items.ensures.levelled c.args.rank c.requires.rank in
    (c.loop-leg.invariant.weighing n.0 n.1 n.2).weighing.here.search.limits

pub relax_marked-requires-clause-queue : goal.relax_marked-requires-clause-queue
relax_marked-requires-clause-queue c =
    let n = node_of_rank c.args.hierarchy.now c.ranked_legs-leg-items.ensures.levelled c.args.rank c.requires.rank in
    let sizes = (c.loop-leg.invariant.weighing n.0 n.1 n.2).weighing.sizes in
    let known = sizes.known in
    let queue = sizes.queue in
    omega arith

pub relax_marked-requires-clause-touched : goal.relax_marked-requires-clause-touched
relax_marked-requires-clause-touched c =
    let n = node_of_rank c.args.hierarchy.now c.ranked_legs-leg-items.ensures.levelled c.args.rank c.requires.rank in
    (c.loop-leg.invariant.weighing n.0 n.1 n.2).weighing.sizes.touched

pub relax_marked-requires-clause-unkeyed : goal.relax_marked-requires-clause-unkeyed
relax_marked-requires-clause-unkeyed c =
    let H = c.args.hierarchy.now in
    let k = c.ranked_legs-leg-items.ensures.levelled in
    let n = node_of_rank H k c.args.rank c.requires.rank in
    let r = read_leg H k c.args.side n.0 _ _ _ (c.ranked_legs-leg-items.ensures.row n.0 n.1 n.2) c.loop-leg-test.true in
    unreached_here H c.args.ends c.args.side c.loop-leg.self n.0 c.args.weight (c.loop-leg.invariant.weighing n.0 n.1 n.2).weighing r.0.node
    c.state.result r.1.node
    (read_state H k c.args.side c.args.side n.0 _ _ r.0 r.1 _ c.state.ensures).0

pub relax_marked-requires-clause-marks : goal.relax_marked-requires-clause-marks
relax_marked-requires-clause-marks c =
    let n = node_of_rank c.args.hierarchy.now c.ranked_legs-leg-items.ensures.levelled c.args.rank c.requires.rank in
    let size = (c.loop-leg.invariant.weighing n.0 n.1 n.2).weighing.sizes.known in
    let many = c.requires.count in
    let kept = (c.loop-leg.invariant.marks n.0 n.1 n.2).there.count in
    omega arith

pub loop-leg-init : goal.loop-leg-init
loop-leg-init c = record {
  weighing = λ v within rank. partly_none c.args.hierarchy.now c.args.ends c.args.side c.args.self.now v c.args.weight
      (c.requires.weighing v within rank);
  marks = λ v within rank. partly_unmarked c.args.hierarchy.now c.args.ends c.args.side c.args.self.now v c.args.weight c.args.marks.now
      (c.requires.marked v within rank);
}

pub loop-leg-preserved : goal.loop-leg-preserved
loop-leg-preserved c =
    let H = c.args.hierarchy.now in
    let k = c.ranked_legs-leg-items.ensures.levelled in
    let old = c.args.self.now in
    let here = c.loop-leg.self in
    let new = c.relax_marked.new.self in
    let shows = c.relax_marked.ensures.shows in
    record {
      weighing = λ v within rank.
          let r = read_leg H k c.args.side v _ _ _ (c.ranked_legs-leg-items.ensures.row v within rank) c.loop-leg-test.true in
          partly_more H c.args.ends c.args.side old here new v c.args.weight _ _ r.0 c.state.result
          (c.loop-leg.invariant.weighing v within rank) r.1
          c.state.ensures (marked_shows c.args.ends.most here new c.loop-leg.marks c.relax_marked.new.marks _ _ _ shows)
          c.relax_marked.ensures.touched;
      marks = λ v within rank.
          let r = read_leg H k c.args.side v _ _ _ (c.ranked_legs-leg-items.ensures.row v within rank) c.loop-leg-test.true in
          marked_more H c.args.ends c.args.side old here new v c.args.weight _ _ r.0 c.state.result c.args.rank c.args.marks.now
          c.loop-leg.marks
          c.relax_marked.new.marks rank c.requires.count (c.loop-leg.invariant.weighing v within rank)
          (c.loop-leg.invariant.marks v within rank) r.1 c.state.ensures shows;
    }

pub returns-clause-gone : goal.returns-clause-gone
returns-clause-gone c =
    let H = c.args.hierarchy.now in
    let n = node_of_rank H c.ranked_legs-leg-items.ensures.levelled c.args.rank c.requires.rank in
    partly_whole H c.args.ends c.args.side c.args.self.now c.loop-leg.self n.0 c.args.weight _ (c.loop-leg.invariant.weighing n.0 n.1 n.2)
    (read_whole H c.args.side n.0 _ _ (c.ranked_legs-leg-items.ensures.row n.0 n.1 n.2) c.loop-leg-test.false)

pub returns-clause-marked : goal.returns-clause-marked
returns-clause-marked c =
    let H = c.args.hierarchy.now in
    let n = node_of_rank H c.ranked_legs-leg-items.ensures.levelled c.args.rank c.requires.rank in
    marked_whole H c.args.ends c.args.side c.args.self.now c.loop-leg.self n.0 c.args.weight c.args.marks.now c.loop-leg.marks _
    (c.loop-leg.invariant.weighing n.0 n.1 n.2) (c.loop-leg.invariant.marks n.0 n.1 n.2)
    (read_whole H c.args.side n.0 _ _ (c.ranked_legs-leg-items.ensures.row n.0 n.1 n.2) c.loop-leg-test.false)

pub returns-clause-there : goal.returns-clause-there
returns-clause-there c =
    let n = node_of_rank c.args.hierarchy.now c.ranked_legs-leg-items.ensures.levelled c.args.rank c.requires.rank in
    (c.loop-leg.invariant.marks n.0 n.1 n.2).there
