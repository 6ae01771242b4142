-- The pairs from a start to the next are a row.
use Rattle.std.proofs.Common.{◌≤◌, length, ap, subst, arith}
use Rattle.ch_graph.specs.Rows.{AreOrdered}
use Rattle.ch_graph.proofs.RowsBetween.{row_within}
use Rattle.ch_custom.specs.LegPairs.{no_pair}
use Rattle.ch_custom.proofs.theory.Flat.{bounds, lent_range}
use Rattle.ch_custom.proofs.metric.Metric.row.Goals as goal

pub index-start-requires : goal.index-start-requires
index-start-requires c = omega (arith, row_within _ _ _ _ c.self.view_is c.requires)

pub index-end-requires : goal.index-end-requires
index-end-requires c = omega (arith, row_within _ _ _ _ c.self.view_is c.requires)

-- the row is within the pairs
among : (c : goal.After-deref) → (c.index-start.result.now ≤ c.index-end.result.now)
    × (c.index-end.result.now ≤ length c.self.inside.pairs.items)
among c = bounds (no_pair 0) c.self.inside.starts.items c.self.inside.pairs.items c.args.self.now c.args.node c.index-start.result.now
    c.index-end.result.now (subst (AreOrdered c.self.inside.starts.items) c.self.inside.pairs.ok.0 c.self.invariant) c.self.view_is
    c.requires
    c.index-start.ensures c.index-end.ensures

pub offset_bounds-deref-start : goal.offset_bounds-deref-start
offset_bounds-deref-start c = let b = among c in let same = ap length c.deref.ensures.value in omega arith

pub slice_bounds-result-count : goal.slice_bounds-result-count
slice_bounds-result-count c = (among c).0

pub slice_bounds-result-start : goal.slice_bounds-result-start
slice_bounds-result-start c = let b = among c in let same = ap length c.deref.ensures.value in omega arith

pub slice_bounds-result-end : goal.slice_bounds-result-end
slice_bounds-result-end c = let b = among c in let same = ap length c.deref.ensures.value in omega arith

pub returns : goal.returns
returns c = lent_range (no_pair 0) c.self.inside.starts.items c.self.inside.pairs.items c.args.self.now c.args.node c.index-start.result.now
    c.index-end.result.now (subst (AreOrdered c.self.inside.starts.items) c.self.inside.pairs.ok.0 c.self.invariant) c.self.view_is
    c.requires
    c.index-start.ensures c.index-end.ensures
    c.deref.result.now c.deref.ensures.value
