-- The lines of the replies by a right hierarchy answer the queries on its graph.
use Rattle.std.proofs.Common.{◌≡◌, true, sym, subst}
use Rattle.std.proofs.lemmas.Result.{IfOk-weaker}
use Rattle.ch_run.proofs.Parts.{bytes_of}
use Rattle.ch_run.proofs.Texts.{replies_text}
use Rattle.ch_run.specs.Text.{IsTextBy}
use Rattle.ch_run.proofs.run.texts.answers_by.Goals as goal

pub returns-then-routes-clause-text : goal.returns-then-routes-clause-text
returns-then-routes-clause-text g c =
    let H = c.args.hierarchy.now in
    let queries = c.args.queries.now in
    IfOk-weaker c.lines_by.result _ _ (λ parts lines network limits kept.
    subst (λ routes. IsTextBy routes network (λ K. K ≡ H) queries (bytes_of parts.items)) (sym c.if-routes.true)
    (replies_text network H limits kept true queries (bytes_of parts.items) lines)) c.lines_by.ensures.lines

pub returns-clause-text : goal.returns-clause-text
returns-clause-text g c =
    IfOk-weaker c.lines_by-2.result _ _ (λ parts lines network limits kept.
    replies_text network c.args.hierarchy.now limits kept c.args.routes c.args.queries.now (bytes_of parts.items) lines)
    c.lines_by-2.ensures.lines
