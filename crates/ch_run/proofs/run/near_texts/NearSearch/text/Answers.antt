-- The lines that the workers write are those of the near rows, within the limit of this call.
use Rattle.std.proofs.Common.{subst}
use Rattle.std.proofs.lemmas.Result.{IfOk-weaker}
use Rattle.ch_rows.specs.Near.{IsWantedRow, Wanted, wanted_within}
use Rattle.ch_text.specs.NearText.{near_row_text}
use Rattle.ch_run.specs.NearRows.{HasNearRows}
use Rattle.ch_run.proofs.Lines.{lines_rows}
use Rattle.ch_run.proofs.Parts.{bytes_of}
use Rattle.ch_run.proofs.run.near_texts.NearSearch.text.Goals as goal

pub returns-clause-text : goal.returns-clause-text
returns-clause-text g c =
    IfOk-weaker c.lines_by.result _ _ (λ parts lines.
    subst (λ (w : Wanted). HasNearRows (wanted_within w c.args.within) c.args.sources.now (bytes_of parts.items)) c.self.view_is
    (let wanted = wanted_within c.self.inside.targets c.args.within in
    lines_rows (IsWantedRow wanted) (near_row_text wanted.targets) c.args.sources.now (bytes_of parts.items) lines))
    c.lines_by.ensures.lines
