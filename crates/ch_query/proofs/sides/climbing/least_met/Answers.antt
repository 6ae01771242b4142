-- Each turn covers one more ancestor, and all nodes that the first search has reached are ancestors.
use Rattle.std.proofs.Common.{sym, ◌∙◌}
use Rattle.ch_query.proofs.one_side.Climbing.{met_all, met_more, met_none, met_skips}
use Rattle.ch_query.proofs.routing.SearchTrees.{no_cost_of}
use Rattle.ch_query.proofs.two_sides.MeetingSteps.{known_arcs, known_at}
use Rattle.ch_query.proofs.sides.climbing.least_met.Goals as goal

pub met-least-requires-clause-cost : goal.met-least-requires-clause-cost
met-least-requires-clause-cost c =
    let node = c.node_at-node.ensures in
    known_arcs c.args.hierarchy.now _ c.args.up.now c.node_at-node.result _ c.requires.up.0.1
    (known_at c.args.hierarchy.now c.args.up.now _ _ (c.node_at-node.result, node.node, sym node.rank) (sym c.in-Some.ensures))

pub loop-place-init : goal.loop-place-init
loop-place-init c = λ q r here there. met_none _ q r _ _ _

pub loop-place-preserved : goal.loop-place-preserved
loop-place-preserved c =
    let node = c.node_at-node.ensures in
    λ q r here there.
    met_more _ q r _ _ _ _ _ (c.loop-place.invariant q r here there) here there c.node_at-node.result node.node
    (sym node.rank) _
    (known_at c.args.hierarchy.now c.args.up.now _ _ (c.node_at-node.result, node.node, sym node.rank) (sym c.in-Some.ensures)) _
    c.met-least.ensures

pub loop-place-preserved-in_default : goal.loop-place-preserved-in_default
loop-place-preserved-in_default c = λ q r here there. met_skips _ q r _ _ _ _ _ (c.loop-place.invariant q r here there)
    (sym c.get.ensures ∙ no_cost_of c.get.result c.in_default.not-Some)

pub returns : goal.returns
returns c = λ q r here there.
    met_all _ q r _ _ _ _ _ c.loop-place-test.false (c.loop-place.invariant q r here there) c.requires.up.1 here there
