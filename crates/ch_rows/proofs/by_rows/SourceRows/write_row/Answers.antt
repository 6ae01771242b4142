-- The least sums over the source's search space and the buckets are the cells of its row.
use Rattle.std.proofs.Common.{◌≡◌, [], length, map, sym, ap, ◌∙◌, subst}
use Rattle.std.specs.Prelude.{All, slice_index_or}
use Rattle.std.proofs.lemmas.Result.{on_ok_weaker}
use Rattle.ch_rows.specs.Buckets.{IsEntryAmong}
use Rattle.ch_rows.specs.Cells.{cell_of}
use Rattle.ch_rows.specs.Near.{Wanted}
use Rattle.ch_rows.specs.Table.{IsRowBy}
use Rattle.ch_rows.proofs.CellRows.{refilled, row_is}
use Rattle.ch_rows.proofs.Tables.{entries_among}
use Rattle.ch_rows.proofs.by_rows.SourceRows.write_row.Goals as goal

pub lower_by_search-requires-clause-kept : goal.lower_by_search-requires-clause-kept
lower_by_search-requires-clause-kept c = c.self.invariant.kept

pub lower_by_search-requires-clause-ranks : goal.lower_by_search-requires-clause-ranks
lower_by_search-requires-clause-ranks c = c.self.invariant.held.count

pub lower_by_search-requires-clause-buckets : goal.lower_by_search-requires-clause-buckets
lower_by_search-requires-clause-buckets c rank =
    let inside = c.self.inside in
    let size : length c.resize.new.self.items ≡ length inside.targets.now = sym c.resize.new.self.ok.0 ∙ c.in_ok-resize.ensures.len in
    subst (λ n. All (IsEntryAmong n) (slice_index_or inside.buckets rank [])) (sym size) (entries_among c.self.invariant rank)

pub returns-clause-row : goal.returns-clause-row
returns-clause-row c =
    let inside = c.self.inside in
    let H = inside.hierarchy.now in
    let targets = inside.targets.now in
    let limit = inside.within in
    let s = c.args.source in
    let fresh = c.resize.new.self.items in
    let low = c.lower_by_search.new.row.items in
    let found = c.in_ok-lower_by_search.ensures.lowered in
    let none = refilled (length targets) fresh c.clear.new.self.items c.clear.new.self.len c.in_ok-resize.ensures.items
    c.clear.ensures.items c.clear.ensures.len in
    on_ok_weaker c.write_cells.result
    (λ h.
    subst (λ (w : Wanted). IsRowBy w.hierarchy w.limit w.targets s c.write_cells.new.cells.items) c.self.view_is
    (subst (IsRowBy H limit targets s) (sym (h.2 ∙ ap (map (cell_of h.0)) c.deref.ensures.value))
    (row_is H limit targets inside.buckets c.self.invariant s found.0 found.1 fresh low none found.2 h.0 h.1)))
    c.write_cells.ensures
