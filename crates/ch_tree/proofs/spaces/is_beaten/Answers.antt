-- Each leg that is read leads to a node, and one that shows a lighter way is such a leg.
use Rattle.std.proofs.Common.{◌≡◌, map, get_or, refl, ap, subst, arith}
use Rattle.ch_hierarchy.specs.Rows.{row}
use Rattle.ch_hierarchy.specs.Ranked.{ranked_leg}
use Rattle.ch_hierarchy.specs.declared.side.Side.{Side}
use Rattle.ch_hierarchy.specs.declared.ranked.RankedLeg.{RankedLeg}
use Rattle.ch_hierarchy.specs.Side.{rows_of}
use Rattle.ch_hierarchy.proofs.code.Ranked.{node_of_rank}
use Rattle.ch_query.proofs.by_weight.LegsRead.{read_light}
use Rattle.ch_tree.specs.Tree.{weight_at}
use Rattle.ch_tree.proofs.theory.Spaces.{leg_within, shows_lighter}
use Rattle.ch_tree.proofs.theory.Walks.{read_weight}
use Rattle.ch_tree.proofs.spaces.is_beaten.Goals as goal

-- the default of an index
abbrev blank : RankedLeg
blank = record { rank = 0; arcs = 0; weight = 0 }

pub bounds-costs-leg : goal.bounds-costs-leg
bounds-costs-leg c =
    let k = c.ranked_legs-leg-items.ensures.levelled in
    let n = node_of_rank c.args.hierarchy.now k c.args.rank c.requires.rank in
    leg_within c.args.hierarchy.now k c.other.result n.0 c.args.costs.now c.ranked_legs-leg-items.result.now c.loop-leg.leg-index blank
    c.requires.sizes (c.ranked_legs-leg-items.ensures.row n.0 n.1 n.2) c.loop-leg-test.true

pub overflow_add-costs : goal.overflow_add-costs
overflow_add-costs c =
    let k = c.ranked_legs-leg-items.ensures.levelled in
    let n = node_of_rank c.args.hierarchy.now k c.args.rank c.requires.rank in
    let items = c.ranked_legs-leg-items.ensures.row n.0 n.1 n.2 in
    let x = get_or c.ranked_legs-leg-items.result.now c.loop-leg.leg-index blank in
    let low = leg_within c.args.hierarchy.now k c.other.result n.0 c.args.costs.now c.ranked_legs-leg-items.result.now c.loop-leg.leg-index
    blank c.requires.sizes items c.loop-leg-test.true in
    let light = read_light c.args.hierarchy.now k c.other.result n.0 c.ranked_legs-leg-items.result.now c.loop-leg.leg-index blank items
    c.loop-leg-test.true in
    let read = read_weight c.args.costs.now x.rank (get_or c.args.costs.now x.rank 0) 0 low refl in
    let small = c.requires.small x.rank in
    omega arith

pub returns-then-costs-leg-clause-beaten : goal.returns-then-costs-leg-clause-beaten
returns-then-costs-leg-clause-beaten c is v low rank =
    let k = c.ranked_legs-leg-items.ensures.levelled in
    let x = get_or c.ranked_legs-leg-items.result.now c.loop-leg.leg-index blank in
    let items = c.ranked_legs-leg-items.ensures.row v low rank in
    let within = leg_within c.args.hierarchy.now k c.other.result v c.args.costs.now c.ranked_legs-leg-items.result.now c.loop-leg.leg-index
    blank c.requires.sizes items c.loop-leg-test.true in
    let there = read_weight c.args.costs.now x.rank (get_or c.args.costs.now x.rank 0) 0 within refl in
    let here : get_or c.args.costs.now c.args.rank 0 ≡ weight_at c.args.costs.now c.args.rank =
    read_weight c.args.costs.now c.args.rank (get_or c.args.costs.now c.args.rank 0) 0
    (omega (arith, c.requires.sizes, c.requires.rank)) refl in
    let same = ap (weight_at c.args.costs.now) rank in
    let light = c.if-costs-leg.true in
    shows_lighter c.args.hierarchy.now k c.args.side v c.args.costs.now c.ranked_legs-leg-items.result.now c.loop-leg.leg-index blank
    (subst (λ (s : Side). c.ranked_legs-leg-items.result.now
    ≡ map (ranked_leg c.args.hierarchy.now) (row (rows_of c.args.hierarchy.now s) v))
    c.other.ensures items) c.loop-leg-test.true (omega arith)
