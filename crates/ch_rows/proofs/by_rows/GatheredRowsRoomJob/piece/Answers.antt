-- One more source adds its row to what is gathered.
use Rattle.std.proofs.Common.{◌≡◌, ℕ, List, [], ◌∷◌, ◌++◌, Option, length, get_or, ap, subst, ◌∙◌}
use Rattle.std.specs.List.{slice_range}
use Rattle.ch_rows.specs.Near.{Wanted}
use Rattle.ch_rows.specs.Table.{IsRowBy}
use Rattle.ch_rows.proofs.Gathering.{one_more}
use Rattle.ch_rows.proofs.by_rows.GatheredRowsRoomJob.piece.Goals as goal

pub loop-source-preserved : goal.loop-source-preserved
loop-source-preserved g c =
    let asked = c.args.self.now.0 in
    let M = g.J.RowJob.meaning c.args.self.now.2 in
    let i = c.loop-source.source-index in
    let sources = slice_range c.self.inside.sources.now c.args.from c.args.to in
    let after = c.add.new.gathered in
    let s = get_or sources i 0 in
    let cells = c.write_row.new.cells.items in
    let same : c.self.inside.rows ≡ asked = ap (λ v. v.0) c.self.view_is in
    let job = ap (λ v. v.2) c.self.view_is in
    let row = subst (λ (w : Wanted). IsRowBy w.hierarchy w.limit w.targets s cells) same c.in_ok-write_row.ensures.row in
    let cells_are : c.deref.result.now ≡ cells = c.deref.ensures.value in
    let Adds = λ (j : g.row.J.Denot) (l : List (Option ℕ)). (some : List ℕ) (rows : List (List (Option ℕ))) →
    length rows ≡ length some → g.J.RowJob.meaning j some rows c.loop-source.gathered →
    g.J.RowJob.meaning j (some ++ s ∷ []) (rows ++ l ∷ []) after in
    let add = subst (λ l. Adds c.args.self.now.2 l) cells_are (subst (λ j. Adds j c.deref.result.now) job c.in_ok-add.ensures) in (
      one_more M asked.hierarchy asked.limit asked.targets sources i c.loop-source.gathered after cells c.loop-source-test.true
          c.loop-source.invariant.0 row add,
      c.in_ok-write_row.ensures.scratch ∙ c.loop-source.invariant.1,
    )
