-- One more row is counted.
use Rattle.std.proofs.Common.{◌≡◌, ◌+◌, ◌*◌, ℕ, length, ap, sym, subst, ◌∙◌, arith}
use Rattle.std.proofs.Math.Nat.{suc-mul}
use Rattle.std.proofs.lemmas.List.{with_items_is}
use Rattle.std.specs.List.{slice_range}
use Rattle.ch_flows.specs.Cells.{IsRowAt, cell_sources, cell_targets, summed}
use Rattle.ch_flows.specs.Plans.{AreCountedBy}
use Rattle.ch_flows.proofs.Cells.{cells_count}
use Rattle.ch_flows.proofs.CellPairs.{all_counted, row_at, row_fits, row_size}
use Rattle.ch_flows.proofs.Results.{if_err-map, if_ok-map}
use Rattle.ch_flows.proofs.table.fill_table.Goals as goal

pub returns-in-Err-clause-refused : goal.returns-in-Err-clause-refused
returns-in-Err-clause-refused c = λ targets are.
    let args = c.args in
    let l = c.loop-i in
    let inv = l.invariant in
    let sources = args.sources.now in
    let trees = args.columns.now.trees.items in
    let demands = args.demands.now in
    let wide : c.len-width.result ≡ length trees = c.len-width.ensures ∙ args.columns.now.trees.ok.0 in
    let ends = row_fits sources demands trees l.i l.first c.loop-i-test.true inv.at c.requires.cells in
    let size = row_size demands l.first c.len-width.result (omega (arith, ends, wide)) in
    let width : length trees ≡ length targets = are.0 in
    let count : length (cell_sources sources targets) ≡ length sources * length trees =
    cells_count targets sources ∙ ap (λ (n : ℕ). length sources * n) (sym width) in
    let row = subst (λ (n : ℕ). IsRowAt (cell_sources sources targets) (cell_targets sources targets) demands l.first
    c.in-Ok-row_of.row.tree.source trees (slice_range demands l.first (l.first + n))) (sym wide)
    (row_at sources targets demands l.i l.first c.in-Ok-row_of.row.tree.source trees are c.loop-i-test.true inv.at
    (c.in-Ok-row_of.ensures {u = tt}).source ends) in
    (c.in-Err.ensures {u = tt}).refused (cell_sources sources targets) (cell_targets sources targets) demands l.first l.missed
    (omega (arith, ends, size, count, wide, c.requires.cells)) row (inv.counted targets are)

pub loop-i-preserved : goal.loop-i-preserved
loop-i-preserved c =
    let args = c.args in
    let l = c.loop-i in
    let inv = l.invariant in
    let sources = args.sources.now in
    let trees = args.columns.now.trees.items in
    let demands = args.demands.now in
    let n = length trees in
    let h = c.in-Ok-add_row.ensures {u = tt} in
    let made = c.in-Ok-row_of.ensures {u = tt} in
    let same : length c.row_of.new.places ≡ length l.places.items = made.places ∙ ap length c.as_mut_slice.ensures.value in
    let ends = row_fits sources demands trees l.i l.first c.loop-i-test.true inv.at c.requires.cells in
    let wide : c.len-width.result ≡ n = c.len-width.ensures ∙ args.columns.now.trees.ok.0 in
    let size = row_size demands l.first c.len-width.result (omega (arith, ends, wide)) in
    let next : (l.i + 1) * n ≡ l.i * n + n = ap (λ (k : ℕ). k * n) (omega arith) ∙ suc-mul l.i n in
    record {
      scratch = h.scratch ∙ made.scratch ∙ inv.scratch;
      places = ap length (with_items_is l.places c.row_of.new.places (same ∙ sym l.places.ok.0)) ∙ same ∙ inv.places;
      long = h.long ∙ inv.long;
      held = h.held ∙ inv.held;
      nothing = h.nothing;
      few = omega (arith, inv.few, h.few, size);
      at = omega (arith, inv.at, next, wide);
      counted = λ targets are.
          let starts = cell_sources sources targets in
          let stops = cell_targets sources targets in
          let row = subst (λ (n : ℕ). IsRowAt starts stops demands l.first c.in-Ok-row_of.row.tree.source trees
          (slice_range demands l.first (l.first + n))) (sym wide)
          (row_at sources targets demands l.i l.first c.in-Ok-row_of.row.tree.source trees are c.loop-i-test.true inv.at
          (c.in-Ok-row_of.ensures {u = tt}).source ends) in
          subst (λ (k : ℕ). AreCountedBy args.hierarchy.now args.plan.now.layout.links.items starts stops demands (l.first + k)
          (summed args.columns.now.branches.items c.add_row.new.sums) (l.missed + c.in-Ok-add_row.more)) size
          (h.counted starts stops demands l.first l.missed row (inv.counted targets are));
    }

pub returns-clause-flows : goal.returns-clause-flows
returns-clause-flows c =
    let args = c.args in
    let l = c.loop-i in
    let H = args.hierarchy.now in
    let sources = args.sources.now in
    let end : l.i ≡ length sources = omega (arith, c.loop-i-test.false, l.auto.i-end) in
    if_ok-map c.finish_table.result (λ all made targets are. made H (cell_sources sources targets) (cell_targets sources targets)
    args.demands.now c.requires.plan (all_counted H args.plan.now.layout.links.items sources targets args.demands.now
    (summed args.columns.now.branches.items l.sums) l.i l.first
    l.missed args.columns.now.trees.items are end l.invariant.at (l.invariant.counted targets are))) c.finish_table.ensures.flows

pub returns-clause-refused : goal.returns-clause-refused
returns-clause-refused c =
    let args = c.args in
    let l = c.loop-i in
    let H = args.hierarchy.now in
    let sources = args.sources.now in
    let end : l.i ≡ length sources = omega (arith, c.loop-i-test.false, l.auto.i-end) in
    if_err-map c.finish_table.result (λ error made targets are. made H (cell_sources sources targets) (cell_targets sources targets)
    args.demands.now c.requires.plan (all_counted H args.plan.now.layout.links.items sources targets args.demands.now
    (summed args.columns.now.branches.items l.sums) l.i l.first
    l.missed args.columns.now.trees.items are end l.invariant.at (l.invariant.counted targets are))) c.finish_table.ensures.refused
