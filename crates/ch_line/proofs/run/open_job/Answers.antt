-- The files before the one that can't be opened, or all files, are opened in the order of the job.
use Rattle.std.proofs.Common.{inl, inr, refl}
use Rattle.ch_run.proofs.Owed.{own_as}
use Rattle.ch_line.specs.Line.{question_files, source_files}
use Rattle.ch_line.proofs.Opening.{opened-more, opened-stops, stops-first}
use Rattle.ch_line.proofs.run.open_job.Goals as goal

-- the files that are opened before one that can't be opened
pub returns-in_err-graph-clause-stopped : goal.returns-in_err-graph-clause-stopped
returns-in_err-graph-clause-stopped g c =
    own_as _ _ _ c.from_residual.ensures.1 (inl c.in_err-graph.ensures.stopped)

pub returns-in_err-source-clause-stopped : goal.returns-in_err-source-clause-stopped
returns-in_err-source-clause-stopped g c =
    let job = c.args.job.now in
    let stops = stops-first g.F.Files.opens (source_files job.source) (question_files job.question) _ _ _ c.in_err-source.ensures.stopped in
    own_as _ _ _ c.from_residual-in_err-source.ensures.1 (inr (_, _, c.in_ok-graph.ensures.opened, stops))

pub returns-in_err-question-clause-stopped : goal.returns-in_err-question-clause-stopped
returns-in_err-question-clause-stopped g c =
    let job = c.args.job.now in
    let stops = opened-stops g.F.Files.opens (source_files job.source) (question_files job.question) _ _ _ _ _
    c.in_ok-source.ensures.opened c.in_err-question.ensures.stopped in
    own_as _ _ _ c.from_residual-in_err-question.ensures.1 (inr (_, _, c.in_ok-graph.ensures.opened, stops))

pub returns-clause-opened : goal.returns-clause-opened
returns-clause-opened g c =
    let job = c.args.job.now in
    let rest = opened-more g.F.Files.opens (source_files job.source) (question_files job.question) _ _ _ _ _
    c.in_ok-source.ensures.opened c.in_ok-question.ensures.opened in
    (refl, _, c.in_ok-graph.ensures.opened, rest)
