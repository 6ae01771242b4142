-- The row that is lent is lowered, and the others stay.
use Rattle.std.proofs.Common.{◌≡◌, ◌++◌, take, drop, ◌≤◌, length, ◌-◌, All, set, sym, ◌∙◌, ap, subst, arith}
use Rattle.std.proofs.Common.{slice_range}
use Rattle.ch_graph.specs.Rows.{AreOrdered, rows_between}
use Rattle.ch_graph.proofs.RowsBetween.{row_within}
use Rattle.ch_custom.specs.LegPairs.{no_pair, pairs_row, IsReady}
use Rattle.ch_custom.proofs.theory.Flat.{bounds, lent_range, range_lent, row_put, put_row}
use Rattle.ch_hierarchy.specs.declared.side.Side.TheVariants.{Up}
use Rattle.ch_custom.specs.Metric.{IsHeld, AreLoweredOver}
use Rattle.ch_custom.specs.LegPairs.{row_of, leg_of}
use Rattle.ch_custom.proofs.theory.LegPairs.{row_size}
use Rattle.ch_hierarchy.specs.Side.{other}
use Rattle.ch_custom.proofs.metric.Metric.lower.Goals as goal

pub index-start-requires : goal.index-start-requires
index-start-requires c = omega (arith, row_within _ _ _ _ c.self.view_is c.requires.node)

pub index-end-requires : goal.index-end-requires
index-end-requires c = omega (arith, row_within _ _ _ _ c.self.view_is c.requires.node)

-- the row is within the pairs
among : (c : goal.After-deref_mut) → (c.index-start.result.now ≤ c.index-end.result.now)
    × (c.index-end.result.now ≤ length c.self.inside.pairs.items)
among c = bounds (no_pair 0) c.self.inside.starts.items c.self.inside.pairs.items c.args.self.now c.args.node c.index-start.result.now
    c.index-end.result.now (subst (AreOrdered c.self.inside.starts.items) c.self.inside.pairs.ok.0 c.self.invariant) c.self.view_is
    c.requires.node
    c.index-start.ensures c.index-end.ensures

pub offset_bounds-deref_mut-start : goal.offset_bounds-deref_mut-start
offset_bounds-deref_mut-start c = let b = among c in let same = ap length c.deref_mut.ensures.value in omega arith

pub slice_bounds-lower_row-count : goal.slice_bounds-lower_row-count
slice_bounds-lower_row-count c = (among c).0

pub slice_bounds-lower_row-start : goal.slice_bounds-lower_row-start
slice_bounds-lower_row-start c = let b = among c in let same = ap length c.deref_mut.ensures.value in omega arith

pub slice_bounds-lower_row-end : goal.slice_bounds-lower_row-end
slice_bounds-lower_row-end c = let b = among c in let same = ap length c.deref_mut.ensures.value in omega arith

pub lower_row-requires-clause-row : goal.lower_row-requires-clause-row
lower_row-requires-clause-row c =
    subst IsReady (sym (lent_range
    (no_pair 0) c.self.inside.starts.items c.self.inside.pairs.items c.args.self.now c.args.node c.index-start.result.now
    c.index-end.result.now (subst (AreOrdered c.self.inside.starts.items) c.self.inside.pairs.ok.0 c.self.invariant) c.self.view_is
    c.requires.node
    c.index-start.ensures c.index-end.ensures
    c.deref_mut.result.now c.deref_mut.ensures.value)) c.requires.row

-- the row that is lent
row_lent : (c : goal.After-self-1) →
    slice_range c.deref_mut.result.now c.index-start.result.now c.index-end.result.now ≡ pairs_row c.args.self.now c.args.node
row_lent c = lent_range
    (no_pair 0) c.self.inside.starts.items c.self.inside.pairs.items c.args.self.now c.args.node c.index-start.result.now
    c.index-end.result.now (subst (AreOrdered c.self.inside.starts.items) c.self.inside.pairs.ok.0 c.self.invariant) c.self.view_is
    c.requires.node
    c.index-start.ensures c.index-end.ensures
    c.deref_mut.result.now c.deref_mut.ensures.value

-- the rows after the call
rows_now : (c : goal.After-self-1) → rows_between c.self.inside.starts.items
    (take c.self.inside.pairs.len ((take c.index-start.result.now c.deref_mut.result.now ++ (c.lower_row.new.row
    ++ drop (c.index-end.result.now - c.index-start.result.now) (drop c.index-start.result.now c.deref_mut.result.now)))
    ++ drop (length (take c.index-start.result.now c.deref_mut.result.now ++ (c.lower_row.new.row
    ++ drop (c.index-end.result.now - c.index-start.result.now) (drop c.index-start.result.now c.deref_mut.result.now))))
    c.self.inside.pairs.items)) ≡ set c.args.self.now c.args.node c.lower_row.new.row
rows_now c = row_put (no_pair 0) c.self.inside.starts.items c.self.inside.pairs.items c.args.self.now c.args.node c.index-start.result.now
    c.index-end.result.now (subst (AreOrdered c.self.inside.starts.items) c.self.inside.pairs.ok.0 c.self.invariant) c.self.view_is
    c.requires.node
    c.index-start.ensures c.index-end.ensures
    c.lower_row.new.row c.deref_mut.result.now c.self.inside.pairs.len
    (sym (row_size Up c.lower_row.new.row) ∙ (c.lower_row.ensures.lowered Up).size ∙ row_size Up _
    ∙ range_lent (no_pair 0) c.self.inside.starts.items c.self.inside.pairs.items c.args.self.now c.args.node c.index-start.result.now
    c.index-end.result.now (subst (AreOrdered c.self.inside.starts.items) c.self.inside.pairs.ok.0 c.self.invariant) c.self.view_is
    c.requires.node
    c.index-start.ensures c.index-end.ensures
    c.deref_mut.result.now c.deref_mut.ensures.value)
    c.self.inside.pairs.ok.0 c.deref_mut.ensures.value

pub returns-clause-edited : goal.returns-clause-edited
returns-clause-edited c = rows_now c
    ∙ ap (set c.args.self.now c.args.node) (sym (put_row c.args.self.now _ c.args.node c.lower_row.new.row c.requires.node (rows_now c)))

pub returns-clause-lowered : goal.returns-clause-lowered
returns-clause-lowered c side =
    let now = put_row c.args.self.now _ c.args.node c.lower_row.new.row c.requires.node (rows_now c) in
    subst (λ z. AreLoweredOver c.args.nodes c.args.middle (leg_of (other side) c.args.one.now) (row_of side c.args.others.now)
    (row_of side (pairs_row c.args.self.now c.args.node)) (row_of side z)) (sym now)
    (subst (λ z. AreLoweredOver c.args.nodes c.args.middle (leg_of (other side) c.args.one.now) (row_of side c.args.others.now)
    (row_of side z) (row_of side c.lower_row.new.row)) (row_lent c)
    (c.lower_row.ensures.lowered side))

pub returns-clause-held : goal.returns-clause-held
returns-clause-held c side =
    let now = put_row c.args.self.now _ c.args.node c.lower_row.new.row c.requires.node (rows_now c) in
    subst (λ z. All IsHeld (row_of side z)) (sym now) (c.lower_row.ensures.held side)
