-- A row that is full within a lesser bound is the row within the limit.
use Rattle.std.proofs.Common.{◌≡◌, Some, length, refl, sym, ap, ◌∙◌, subst}
use Rattle.ch_rows.specs.Near.{IsNearRow, Wanted}
use Rattle.ch_rows.proofs.GraphRows.{full_row}
use Rattle.ch_rows.proofs.rows.Nearest.fill_by_guess.Goals as goal

pub returns-then-is_full-clause-row : goal.returns-then-is_full-clause-row
returns-then-is_full-clause-row c =
    let w = c.args.self.now in
    let s = c.args.source in
    let guess = c.args.room.now.guess in
    let within = c.args.within in
    let row = c.fill.new.room.row.items in
    let full : w.count ≡ Some (length row) = sym (ap (λ (q : Wanted). q.count) c.self.view_is) ∙ c.is_full.ensures c.if-is_full.true in
    let lesser = c.is_lesser.ensures c.if-is_lesser.true in
    let near = subst (λ count. IsNearRow w.hierarchy (Some guess) count w.targets s row) full c.in_ok-fill.ensures.row in
    subst (λ count. IsNearRow w.hierarchy within count w.targets s row) (sym full)
    (full_row w.hierarchy within guess (length row) w.targets s row lesser refl near)
