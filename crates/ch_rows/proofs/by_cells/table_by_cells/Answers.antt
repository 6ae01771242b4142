-- The least sums that all pieces owe to a cell are the cell of its row, and the rows are few enough for a table.
use Rattle.std.proofs.Common.{ℕ, ◌*◌, ◌<◌, Option, List, length, slice_index_or, Vec, ap, sym, ◌∙◌, subst, arith}
use Rattle.std.specs.declared.alloc.Global.{Global}
use Rattle.std.specs.List.{AllZip}
use Rattle.std.proofs.lemmas.List.{length-map}
use Rattle.ch_work.specs.Owed.{IsLeastOwed}
use Rattle.ch_rows.specs.Dealing.{item_of, deal_of}
use Rattle.ch_rows.specs.Owed.{BothSides, IsOwedAmong}
use Rattle.ch_rows.proofs.Deals.{items_apart}
use Rattle.ch_rows.specs.Table.{IsRowBy, rows_of_cells}
use Rattle.ch_rows.proofs.Tables.{table_is, length_rows}
use Rattle.ch_rows.proofs.by_cells.table_by_cells.Goals as goal

pub returns : goal.returns
returns g c =
    let a = c.args in
    let sources = a.sources.now in
    let targets = a.targets.now in
    let S = c.in_ok-sums.sums in
    let sides = c.in_ok-sums.ensures in
    let p = a.crew.now.plan.piece in
    let cells = c.in_ok-cells.cells.items in
    let Least : ℕ × BothSides → Type 0 = λ t. (cell : ℕ) (d : Option ℕ) → cell < length sources * length targets →
    IsLeastOwed (IsOwedAmong t.1) t.0 p cell (slice_index_or cells cell d) in
    let count = c.nodes-nodes.ensures.nodes ∙ sym sides.rise.held.count in
    let least = subst Least
    (λ k. (
      count k,
      record {
        ups = S.ups;
        downs = S.downs;
        rows = sides.rows k;
        columns = sides.columns k;
        limit =
            sides.limit k;
      },
    )) c.in_ok-cells.ensures.least in
    let positive = c.pieces.ensures.limits.piece.0 in
    let deal = deal_of a.hierarchy.now p in
    let H = a.hierarchy.now in
    let cut = c.in_ok-rows.ensures ∙ ap (rows_of_cells (length sources) (length targets)) c.deref.ensures.value in
    subst (AllZip (IsRowBy H a.within targets) sources) (sym cut)
    (table_is a.hierarchy.now a.within (item_of deal) sources targets S.ups S.downs sides.rise sides.fall p cells positive
    (items_apart deal positive) c.in_ok-cells.ensures.count least)

pub invariant_of-result : goal.invariant_of-result
invariant_of-result g c =
    let rows = c.in_ok-rows.rows in
    let items : Vec (Option ℕ) Global → List (Option ℕ) = λ row. row.items in
    let cut = ap length c.in_ok-rows.ensures in
    let count = length-map rows.items items in
    let all = length_rows (length c.args.sources.now) (length c.args.targets.now) c.deref.result.now in
    omega (arith, rows.ok.0, cut, count, all, c.requires.lists.0)
