-- The row that is lent is written, and the others stay.
use Rattle.std.proofs.Common.{◌≤◌, length, set, sym, ◌∙◌, ap, subst, arith}
use Rattle.ch_graph.specs.Rows.{AreOrdered}
use Rattle.ch_graph.proofs.RowsBetween.{row_within}
use Rattle.ch_custom.specs.LegPairs.{no_pair}
use Rattle.ch_custom.proofs.theory.Flat.{bounds, lent_range, range_lent, row_put}
use Rattle.ch_custom.proofs.metric.Metric.put_row.Goals as goal

pub index-start-requires : goal.index-start-requires
index-start-requires c = omega (arith, row_within _ _ _ _ c.self.view_is c.requires.node)

pub index-end-requires : goal.index-end-requires
index-end-requires c = omega (arith, row_within _ _ _ _ c.self.view_is c.requires.node)

-- the row is within the pairs
among : (c : goal.After-deref_mut) → (c.index-start.result.now ≤ c.index-end.result.now)
    × (c.index-end.result.now ≤ length c.self.inside.pairs.items)
among c = bounds (no_pair 0) c.self.inside.starts.items c.self.inside.pairs.items c.args.self.now c.args.node c.index-start.result.now
    c.index-end.result.now (subst (AreOrdered c.self.inside.starts.items) c.self.inside.pairs.ok.0 c.self.invariant) c.self.view_is
    c.requires.node
    c.index-start.ensures c.index-end.ensures

pub offset_bounds-deref_mut-start : goal.offset_bounds-deref_mut-start
offset_bounds-deref_mut-start c = let b = among c in let same = ap length c.deref_mut.ensures.value in omega arith

pub slice_bounds-write_row-count : goal.slice_bounds-write_row-count
slice_bounds-write_row-count c = (among c).0

pub slice_bounds-write_row-start : goal.slice_bounds-write_row-start
slice_bounds-write_row-start c = let b = among c in let same = ap length c.deref_mut.ensures.value in omega arith

pub slice_bounds-write_row-end : goal.slice_bounds-write_row-end
slice_bounds-write_row-end c = let b = among c in let same = ap length c.deref_mut.ensures.value in omega arith

pub write_row-requires : goal.write_row-requires
write_row-requires c = c.requires.size ∙ ap length (sym (lent_range (no_pair 0) c.self.inside.starts.items c.self.inside.pairs.items
    c.args.self.now c.args.node c.index-start.result.now
    c.index-end.result.now (subst (AreOrdered c.self.inside.starts.items) c.self.inside.pairs.ok.0 c.self.invariant) c.self.view_is
    c.requires.node c.index-start.ensures c.index-end.ensures
    c.deref_mut.result.now c.deref_mut.ensures.value))

pub returns : goal.returns
returns c =
    row_put (no_pair 0) c.self.inside.starts.items c.self.inside.pairs.items c.args.self.now c.args.node c.index-start.result.now
    c.index-end.result.now (subst (AreOrdered c.self.inside.starts.items) c.self.inside.pairs.ok.0 c.self.invariant) c.self.view_is
    c.requires.node c.index-start.ensures c.index-end.ensures c.write_row.new.target c.deref_mut.result.now
    c.self.inside.pairs.len
    (ap length c.write_row.ensures ∙ c.requires.size ∙ ap length (sym (lent_range (no_pair 0) c.self.inside.starts.items
    c.self.inside.pairs.items c.args.self.now c.args.node c.index-start.result.now
    c.index-end.result.now (subst (AreOrdered c.self.inside.starts.items) c.self.inside.pairs.ok.0 c.self.invariant) c.self.view_is
    c.requires.node c.index-start.ensures c.index-end.ensures
    c.deref_mut.result.now c.deref_mut.ensures.value))
    ∙ range_lent (no_pair 0) c.self.inside.starts.items c.self.inside.pairs.items c.args.self.now c.args.node c.index-start.result.now
    c.index-end.result.now (subst (AreOrdered c.self.inside.starts.items) c.self.inside.pairs.ok.0 c.self.invariant) c.self.view_is
    c.requires.node c.index-start.ensures c.index-end.ensures c.deref_mut.result.now c.deref_mut.ensures.value)
    c.self.inside.pairs.ok.0 c.deref_mut.ensures.value
    ∙ ap (set c.args.self.now c.args.node) c.write_row.ensures
