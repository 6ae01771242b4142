-- The lines of the replies in the caller's scratch spaces, joined, answer the queries on the graph.
use Rattle.std.proofs.lemmas.Result.{IfOk-weaker}
use Rattle.ch_run.proofs.Texts.{replies_text}
use Rattle.ch_run.proofs.run.texts.answers_in.Goals as goal

pub returns-clause-text : goal.returns-clause-text
returns-clause-text g c =
    IfOk-weaker c.joined.result _ _ (λ text is network limits kept. rw is
    (replies_text network c.args.hierarchy.now limits kept c.args.routes c.args.queries.now _ c.in_ok-parts.ensures.lines))
    c.joined.ensures
