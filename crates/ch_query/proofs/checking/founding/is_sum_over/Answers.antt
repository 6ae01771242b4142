-- The two legs of a middle add up without overflow, and a leg is over the middle exactly if it has their sum.
use Rattle.std.proofs.Common.{Contains, arith, sym, ◌∙◌, subst}
use Rattle.std.proofs.lemmas.Bool.{false≢true}
use Rattle.ch_hierarchy.specs.Rows.{IsRow}
use Rattle.ch_hierarchy.specs.declared.side.Side.TheVariants.{Up, Down}
use Rattle.ch_query.proofs.faults.LegCosts.{sums_over, cost_bounds, equal_costs}
use Rattle.ch_query.proofs.routing.Rows.{rows_ordered}
use Rattle.ch_query.proofs.checking.founding.is_sum_over.Goals as goal

pub cost_in_row-requires : goal.cost_in_row-requires
cost_in_row-requires c =
    subst IsRow (sym c.down.ensures.row) (rows_ordered c.args.hierarchy.now c.nodes.ensures.levelled Down c.args.middle)

pub cost_in_row-requires-2 : goal.cost_in_row-requires-2
cost_in_row-requires-2 c = subst IsRow (sym c.up.ensures.row) (rows_ordered c.args.hierarchy.now c.nodes.ensures.levelled Up c.args.middle)

pub returns-in_default : goal.returns-in_default
returns-in_default c =
    (λ no. absurd (false≢true no), λ s. absurd (c.in_default.ensures s.0 (subst (λ q. Contains q s.0) (sym c.down.ensures.row) s.2) s.3))

pub returns-in_default-cost_in_row : goal.returns-in_default-cost_in_row
returns-in_default-cost_in_row c = (
  λ no. absurd (false≢true no),
  λ s.
      absurd (c.in_default-cost_in_row.ensures s.1 (subst (λ q. Contains q s.1) (sym c.up.ensures.row) s.4) s.5),
)

pub plus-requires-clause-weights : goal.plus-requires-clause-weights
plus-requires-clause-weights c =
    let k = c.nodes.ensures.levelled in
    let a = (cost_bounds c.args.hierarchy.now k Down c.args.middle c.args.leg.from c.down.result.now c.down.ensures.row
    c.in-Some.into c.in-Some.ensures).0 in
    let b = (cost_bounds c.args.hierarchy.now k Up c.args.middle c.args.leg.to c.up.result.now c.up.ensures.row
    c.in-Some-cost_in_row.out c.in-Some-cost_in_row.ensures).0 in
    omega arith

pub plus-requires-clause-arcs : goal.plus-requires-clause-arcs
plus-requires-clause-arcs c =
    let k = c.nodes.ensures.levelled in
    let a = (cost_bounds c.args.hierarchy.now k Down c.args.middle c.args.leg.from c.down.result.now c.down.ensures.row
    c.in-Some.into c.in-Some.ensures).1 in
    let b = (cost_bounds c.args.hierarchy.now k Up c.args.middle c.args.leg.to c.up.result.now c.up.ensures.row
    c.in-Some-cost_in_row.out c.in-Some-cost_in_row.ensures).1 in
    let count = k.count in
    omega arith

pub returns : goal.returns
returns c =
    let sums = sums_over c.args.hierarchy.now c.nodes.ensures.levelled c.args.leg c.args.middle c.down.result.now c.up.result.now
    c.down.ensures.row c.up.ensures.row
    c.in-Some.into c.in-Some-cost_in_row.out c.in-Some.ensures c.in-Some-cost_in_row.ensures in
    let tells = equal_costs c.plus.result c.args.leg.cost c.eq.result c.eq.ensures in
    (λ yes. sums.0 (sym c.plus.ensures ∙ tells.0 yes), λ s. tells.1 (c.plus.ensures ∙ sums.1 s))
