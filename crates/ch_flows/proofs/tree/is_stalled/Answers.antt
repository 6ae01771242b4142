-- The leg and the entry show a way that costs less.
use Rattle.std.proofs.Common.{◌≡◌, ◌<◌, ℕ, List, length, ap, subst, ◌∙◌}
use Rattle.ch_graph.specs.Cost.{IsBelow, cost_sum}
use Rattle.ch_hierarchy.specs.declared.leg.Leg.{Leg as AnyLeg}
use Rattle.ch_hierarchy.specs.declared.side.Side.{Side as AnySide}
use Rattle.ch_hierarchy.specs.Rows.{row as the_row_of}
use Rattle.ch_hierarchy.specs.Side.{other, rows_of}
use Rattle.ch_flows.specs.Layouts.{leg_on}
use Rattle.ch_flows.specs.Trees.{entry_at}
use Rattle.ch_flows.proofs.KeptEntries.{stalls}
use Rattle.ch_flows.proofs.tree.is_stalled.Goals as goal

pub returns-then-is_dearer : goal.returns-then-is_dearer
returns-then-is_dearer c = λ _ s spread.
    let H = c.args.hierarchy.now in
    let side = c.args.side in
    let entries = c.args.entries.now in
    let v = (entry_at entries c.args.place).0 in
    let cost = (entry_at entries c.args.place).1 in
    let legs = the_row_of (rows_of H (other side)) v in
    let same : c.legs-legs.result.now ≡ legs =
    c.legs-legs.ensures.row ∙ ap (λ (o : AnySide). the_row_of (rows_of H o) v) c.other.ensures in
    let low : c.loop-k.k < length legs = subst (λ (them : List AnyLeg). c.loop-k.k < length them) same c.loop-k-test.true in
    let Shows : List AnyLeg → Type 0 = λ them. (j : ℕ) × (j < length entries) × ((entry_at entries j).0 ≡ (leg_on them c.loop-k.k).node)
    × IsBelow (cost_sum (entry_at entries j).1 (leg_on them c.loop-k.k).cost) cost in
    let is : Shows legs = subst Shows same (c.is_dearer.ensures c.if-is_dearer.true) in
    stalls (rows_of H side) (rows_of H (other side)) entries v is.0 c.loop-k.k cost low is.1 is.2 is.3 s spread
