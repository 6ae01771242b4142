-- One more leg to the node is counted only if it comes from a near node.
use Rattle.std.proofs.Common.{get_or, subst, ◌<◌, ◌*◌}
use Rattle.ch_hierarchy.proofs.theory.NoLeg.{no_leg}
use Rattle.ch_contract.specs.Near.{seen_from}
use Rattle.ch_contract.specs.Remaining.{legs_of}
use Rattle.ch_contract.proofs.code.Near.{counted_none, counted_more, near_of, seen_within}
use Rattle.ch_contract.proofs.theory.RowLemmas.{leg_to_at}
use Rattle.ch_contract.proofs.remaining.Remaining.count_near.Goals as goal

pub loop-leg-init : goal.loop-leg-init
loop-leg-init c = counted_none _ _ _ _

pub legs_from-row-requires : goal.legs_from-row-requires
legs_from-row-requires c =
    let L = legs_of c.args.self.now in
    let M = seen_from c.args.end L in
    seen_within c.args.end c.args.self.now.nodes L c.args.v _ _ c.nodes-nodes.ensures.limits
    (leg_to_at M c.args.v c.legs_into-legs.result.now c.loop-leg.leg-index no_leg c.legs_into-legs.ensures c.loop-leg-test.true)

pub loop-leg-preserved : goal.loop-leg-preserved
loop-leg-preserved c =
    let M = seen_from c.args.end (legs_of c.args.self.now) in
    let legs = c.legs_into-legs.result.now in
    let i = c.loop-leg.leg-index in
    let leg = get_or legs i no_leg in
    counted_more c.args.self.now.nodes M c.args.v legs i c.loop-leg.count c.one_more-count.result c.is_near-near.result
    c.legs_into-legs.ensures.0 c.loop-leg-test.true
    (λ near. near_of c.args.self.now.nodes M c.args.v leg c.legs_from-row.result.now c.legs_from-row.ensures
    (leg_to_at M c.args.v legs i no_leg c.legs_into-legs.ensures c.loop-leg-test.true) (c.is_near-near.ensures.weight near)
    (subst (λ n. 2 * leg.cost.arcs < n) c.nodes-nodes.ensures.nodes (c.is_near-near.ensures.arcs near)) (c.is_near-near.ensures.away near))
    c.one_more-count.ensures c.loop-leg.invariant

pub returns : goal.returns
returns c =
    let i = c.loop-leg.invariant in (i.nodes, i.ordered, i.many, i.near)

pub returns-then-are_enough : goal.returns-then-are_enough
returns-then-are_enough c =
    let i = c.loop-leg.invariant in (i.nodes, i.ordered, i.many, i.near)
