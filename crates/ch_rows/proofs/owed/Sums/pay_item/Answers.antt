-- One more source pays the sums that it owes at the node to the cells of its row.
use Rattle.std.proofs.Common.{ℕ, ◌*◌, ◌+◌, Option, List, [], take, get_or, ap, sym, ◌∙◌, subst}
use Rattle.std.specs.Prelude.{All, slice_index_or}
use Rattle.std.proofs.lemmas.List.{take_more}
use Rattle.std.proofs.lemmas.List.Elements.{All-get_or}
use Rattle.ch_work.specs.Owed.{HasPaid}
use Rattle.ch_work.specs.Passes.{view_of, size_of}
use Rattle.ch_rows.specs.Buckets.{IsEntryAmong}
use Rattle.ch_rows.specs.Owed.{BothSides, IsOwedBy}
use Rattle.ch_rows.proofs.Owing.{row_cells, item_more}
use Rattle.ch_rows.proofs.owed.Sums.pay_item.Goals as goal

pub pay_row-requires-clause-targets : goal.pay_row-requires-clause-targets
pay_row-requires-clause-targets c =
    let inside = c.self.inside in
    let S : BothSides = record {
      ups = inside.sources;
      downs = inside.targets;
      rows = inside.rows;
      columns = inside.columns;
      limit =
          inside.within;
    } in
    let sources = c.at-source-items.result.now in
    let targets = c.at-targets.result.now in
    let i = c.loop-source.source-index in
    let size = c.requires.cells ∙ sym (ap (λ (s : BothSides). s.rows * s.columns) c.self.view_is) in
    let all = subst (All (IsEntryAmong S.rows)) (sym c.at-source-items.ensures) (c.self.invariant.ups c.args.item) in
    let those = subst (All (IsEntryAmong S.columns)) (sym c.at-targets.ensures) (c.self.invariant.downs c.args.item) in
    let row = (All-get_or (IsEntryAmong S.rows) sources i (0, 0) c.loop-source-test.true all).0 in
    row_cells S (size_of c.args.board.now).cells (get_or sources i (0, 0)).0 targets row size those

pub loop-source-preserved : goal.loop-source-preserved
loop-source-preserved c =
    let a = c.args in
    let S = a.self.now in
    let columns = c.self.inside.columns in
    let limit = c.self.inside.within in
    let sources = c.at-source-items.result.now in
    let targets = c.at-targets.result.now in
    let i = c.loop-source.source-index in
    let u = view_of a.pass.now in
    let v = view_of c.loop-source.pass in
    let w = view_of c.pay_row.new.pass in
    let same = ap (λ (s : BothSides). s.columns) c.self.view_is in
    let same_limit = ap (λ (s : BothSides). s.limit) c.self.view_is in
    let those = c.at-source-items.ensures ∙ ap (λ (s : BothSides). slice_index_or s.ups a.item []) c.self.view_is in
    let these = c.at-targets.ensures ∙ ap (λ (s : BothSides). slice_index_or s.downs a.item []) c.self.view_is in
    let Before : Option ℕ × ℕ × List (ℕ × ℕ) × List (ℕ × ℕ) → Type 0 = λ t. HasPaid (IsOwedBy t.0 t.1 (take i t.2) t.3) u v in
    let After : Option ℕ × ℕ × List (ℕ × ℕ) × List (ℕ × ℕ) → Type 0 = λ t. HasPaid (IsOwedBy t.0 t.1 (take (i + 1) t.2) t.3) u w in
    let before : HasPaid (IsOwedBy limit columns (take i sources) targets) u v =
    subst Before (λ k. (sym same_limit k, sym same k, sym those k, sym these k)) c.loop-source.invariant.1 in
    let step = take_more sources i (0, 0) c.loop-source-test.true in
    let after = item_more limit columns i sources targets (get_or sources i (0, 0)) step u v w before c.pay_row.ensures.paid in
    (c.pay_row.ensures.board, subst After (λ k. (same_limit k, same k, those k, these k)) after)
