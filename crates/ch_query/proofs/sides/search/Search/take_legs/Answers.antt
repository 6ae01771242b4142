-- An ancestor that is not reached has no legs to take. Of another one each leg is taken, without overflow.
use Rattle.std.proofs.Common.{sym, ◌∙◌}
use Rattle.ch_query.proofs.one_side.Climbing.{climb_done, climb_opens, climb_skips}
use Rattle.ch_query.proofs.one_side.Climbing.{taken_arcs, taken_rank, taken_weights, takes_step}
use Rattle.ch_query.proofs.one_side.RankedLegs.{read_all}
use Rattle.ch_query.proofs.routing.SearchTrees.{no_cost_of}
use Rattle.ch_query.proofs.two_sides.MeetingSteps.{known_at}
use Rattle.ch_query.proofs.sides.search.Search.take_legs.Goals as goal

pub node_at-node-requires : goal.node_at-node-requires
node_at-node-requires c = c.requires.ancestors.within _ c.requires.place

pub take_leg-requires-clause-rank : goal.take_leg-requires-clause-rank
take_leg-requires-clause-rank c =
    let node = c.node_at-node.ensures in
    taken_rank _ c.loop-leg.invariant c.requires.ancestors c.requires.place node.node
    (sym node.rank)
    (c.ranked_legs-leg-items.ensures.row _ node.node node.rank) c.loop-leg-test.true

pub take_leg-requires-clause-weights : goal.take_leg-requires-clause-weights
take_leg-requires-clause-weights c =
    let node = c.node_at-node.ensures in
    taken_weights _ c.loop-leg.invariant c.requires.ancestors c.requires.place node.node
    (sym node.rank)
    (c.ranked_legs-leg-items.ensures.row _ node.node node.rank) c.loop-leg-test.true

pub take_leg-requires-clause-arcs : goal.take_leg-requires-clause-arcs
take_leg-requires-clause-arcs c =
    let node = c.node_at-node.ensures in
    taken_arcs _ c.loop-leg.invariant c.requires.ancestors c.requires.place node.node
    (sym node.rank)
    (c.ranked_legs-leg-items.ensures.row _ node.node node.rank) c.loop-leg-test.true

pub loop-leg-preserved : goal.loop-leg-preserved
loop-leg-preserved c =
    let node = c.node_at-node.ensures in
    let after = c.take_leg.ensures in
    takes_step _ c.loop-leg.invariant c.requires.ancestors c.requires.place node.node (sym node.rank)
    (c.ranked_legs-leg-items.ensures.row _ node.node node.rank) c.loop-leg-test.true c.take_leg.new.self after.queue after.takes
    after.touched

pub loop-leg-init : goal.loop-leg-init
loop-leg-init c =
    let node = c.node_at-node.ensures in
    climb_opens _ _ _ _ _ c.requires.climbing _ _
    (known_at c.args.hierarchy.now c.args.self.now _ _ (c.node_at-node.result, node.node, sym node.rank) (sym c.in-Some.ensures))

pub returns-in_default : goal.returns-in_default
returns-in_default c = record {
  climbing = climb_skips _ _ _ _ _ c.requires.climbing (sym c.get.ensures ∙ no_cost_of c.get.result c.in_default.not-Some);
}

pub returns : goal.returns
returns c =
    let node = c.node_at-node.ensures in
    record {
      climbing = climb_done c.args.hierarchy.now _ c.args.ancestors.now c.args.place c.node_at-node.result _ _ _ node.node
          (sym node.rank) c.loop-leg.invariant
          (read_all c.args.hierarchy.now _ _ _ (c.ranked_legs-leg-items.ensures.row _ node.node node.rank) c.loop-leg-test.false);
    }
