-- One more range of cells is the next row.
use Rattle.std.proofs.Common.{◌≡◌, ℕ, ◌+◌, ◌*◌, ◌++◌, [], ◌∷◌, Option, List, map, Vec, slice_range, sym, ap, ◌∙◌, arith}
use Rattle.std.specs.declared.alloc.Global.{Global}
use Rattle.std.proofs.lemmas.List.{map-append}
use Rattle.std.proofs.lemmas.List.FromFn.{map-range_with_len_more}
use Rattle.ch_rows.specs.Table.{rows_of_cells}
use Rattle.ch_rows.proofs.by_cells.cut.Goals as goal

pub loop-i-init : goal.loop-i-init
loop-i-init c = ap (map (λ (row : Vec (Option ℕ) Global). row.items)) c.in_ok-list.ensures.items

-- the loop adds one more row
pub loop-i-preserved : goal.loop-i-preserved
loop-i-preserved c =
    let items : Vec (Option ℕ) Global → List (Option ℕ) = λ row. row.items in
    let i = c.loop-i.i in
    let columns = c.args.columns in
    let row = c.in_ok-from_slice.field-0 in
    let part : ℕ → List (Option ℕ) = λ k. slice_range c.args.cells.now (k * columns) (k * columns + columns) in
    let next : 0 + i ≡ i = omega arith in
    ap (map items) c.in_ok-push.ensures.items
    ∙ map-append items c.loop-i.list.items (row ∷ [])
    ∙ ap (λ rows. rows ++ items row ∷ []) c.loop-i.invariant
    ∙ ap (λ last. rows_of_cells i columns c.args.cells.now ++ last ∷ []) c.in_ok-from_slice.ensures.items
    ∙ sym (map-range_with_len_more part 0 i i next)
