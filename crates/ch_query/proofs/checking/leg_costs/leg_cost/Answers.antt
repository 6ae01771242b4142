-- The leg between two nodes is in the row up of its start if the end is higher, and else in the row down of its end.
use Rattle.std.proofs.Common.{arith, subst}
use Rattle.ch_hierarchy.specs.Rows.{IsRow}
use Rattle.ch_hierarchy.specs.declared.side.Side.TheVariants.{Up, Down}
use Rattle.ch_query.proofs.faults.LegCosts.{cost_up, cost_down}
use Rattle.ch_query.proofs.routing.Rows.{rows_ordered}
use Rattle.std.proofs.Common.{sym}
use Rattle.ch_query.proofs.checking.leg_costs.leg_cost.Goals as goal

pub cost_in_row-requires : goal.cost_in_row-requires
cost_in_row-requires c = subst IsRow (sym c.up.ensures.row) (rows_ordered c.args.hierarchy.now c.level.ensures.levelled Up c.args.start)

pub cost_in_row-requires-else-level : goal.cost_in_row-requires-else-level
cost_in_row-requires-else-level c =
    subst IsRow (sym c.down.ensures.row) (rows_ordered c.args.hierarchy.now c.level.ensures.levelled Down c.args.end)

pub returns-then-level-clause-cost : goal.returns-then-level-clause-cost
returns-then-level-clause-cost c =
    let lt = c.if-level.true in
    let a = c.level.ensures.level in
    let b = c.level-2.ensures.level in
    cost_up c.args.hierarchy.now c.level.ensures.levelled c.args.start c.args.end (omega arith) _ c.up.ensures.row _ c.cost_in_row.ensures

pub returns-else-level-clause-cost : goal.returns-else-level-clause-cost
returns-else-level-clause-cost c =
    let le = c.if-level.false in
    let a = c.level.ensures.level in
    let b = c.level-2.ensures.level in
    cost_down c.args.hierarchy.now c.level.ensures.levelled c.args.start c.args.end (omega arith) _ c.down.ensures.row _
    c.cost_in_row-else-level.ensures
