-- The lines that the workers write are those of the rows that the sweep made.
use Rattle.std.proofs.lemmas.Result.{IfOk-weaker}
use Rattle.ch_rows.specs.Near.{IsWantedRow}
use Rattle.ch_text.specs.NearText.{near_row_text}
use Rattle.ch_run.proofs.Lines.{lines_rows}
use Rattle.ch_run.proofs.Parts.{bytes_of}
use Rattle.ch_run.proofs.run.near_texts.swept_text.Goals as goal

pub returns-clause-text : goal.returns-clause-text
returns-clause-text g c =
    let wanted = c.args.near.now in
    IfOk-weaker c.lines_by.result _ _ (λ parts lines.
    lines_rows (IsWantedRow wanted) (near_row_text wanted.targets) c.args.sources.now (bytes_of parts.items) lines) c.lines_by.ensures.lines
