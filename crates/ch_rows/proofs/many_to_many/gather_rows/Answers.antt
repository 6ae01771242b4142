-- The table that is made by cells has a row for each source, and the value gathered from all of them is the only one.
use Rattle.std.proofs.Common.{[], ◌∷◌, ◌++◌, ap, ◌∙◌, sym, subst}
use Rattle.std.proofs.lemmas.Slice.Zip.{AllZip-long}
use Rattle.ch_rows.specs.Table.{IsRowBy, AreGathered}
use Rattle.ch_rows.proofs.Gathering.{one_part}
use Rattle.ch_rows.proofs.many_to_many.gather_rows.Goals as goal

pub gathered-requires-clause-rows : goal.gathered-requires-clause-rows
gathered-requires-clause-rows g c κs within =
    let a = c.args in
    AllZip-long (IsRowBy a.hierarchy.now a.within a.targets.now) a.sources.now c.in_ok-table.table c.in_ok-table.ensures

pub returns-in_ok-push : goal.returns-in_ok-push
returns-in_ok-push g c =
    let a = c.args in
    let M = g.J.RowJob.meaning a.job.now in
    subst (AreGathered M a.hierarchy.now a.within a.targets.now a.sources.now)
    (sym (c.in_ok-push.ensures.items ∙ ap (λ l. l ++ c.in_ok-whole.whole ∷ []) c.in_ok-values.ensures.items))
    (one_part M a.hierarchy.now a.within a.targets.now a.sources.now c.in_ok-table.table c.in_ok-whole.whole c.in_ok-table.ensures
    c.in_ok-whole.ensures)
