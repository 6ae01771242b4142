-- The parts together are the text of the table of the graph.
use Rattle.std.proofs.lemmas.Result.{IfOk-weaker}
use Rattle.ch_text.proofs.GraphTexts.{rows_table}
use Rattle.ch_run.proofs.Parts.{bytes_of}
use Rattle.ch_run.proofs.RowTexts.{gathered_texts}
use Rattle.ch_run.proofs.run.texts.table_parts_by.Goals as goal

pub returns-clause-text : goal.returns-clause-text
returns-clause-text g c =
    let a = c.args in
    let rows = gathered_texts a.hierarchy.now a.within a.targets.now a.sources.now c.in_ok-parts.parts.items c.in_ok-parts.ensures in
    IfOk-weaker c.checked_length.result _ _ (λ parts same network limits kept. rw same
    (rows_table network a.hierarchy.now limits kept a.within a.sources.now a.targets.now (bytes_of c.in_ok-parts.parts.items) rows))
    c.checked_length.ensures.same
