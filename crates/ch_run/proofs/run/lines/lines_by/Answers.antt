-- The texts of consecutive pieces have the lines of all items.
use Rattle.std.proofs.Common.{refl}
use Rattle.std.proofs.lemmas.Result.{IfOk-weaker}
use Rattle.ch_run.proofs.Lines.{lines_of_pieces}
use Rattle.ch_run.proofs.run.lines.lines_by.Goals as goal

pub returns-clause-lines : goal.returns-clause-lines
returns-clause-lines g c =
    let lines = lines_of_pieces (g.J.LineJob.lines c.args.job.now) c.args.items.now _ c.args.crew.now.plan.piece
    c.in_ok-parts.parts.items refl c.in_ok-parts.ensures.limits.piece.0 c.in_ok-parts.ensures.values in
    IfOk-weaker c.checked_length.result _ _ (λ parts same. rw same lines) c.checked_length.ensures.same
