-- The answers by a hierarchy that is right for the graph are those in the order that the options choose.
use Rattle.std.proofs.Common.{◌≡◌, sym, subst}
use Rattle.std.proofs.lemmas.Result.{IfOk-weaker}
use Rattle.ch_text.specs.Distances.{IsDistanceText}
use Rattle.ch_run.specs.Text.{writes_routes}
use Rattle.ch_run.proofs.Parts.{bytes_of}
use Rattle.ch_run.proofs.Texts.{text_among}
use Rattle.ch_run.specs.Source.{IsServing}
use Rattle.ch_run.proofs.run.dist.text_of.Goals as goal

pub returns-then-options-clause-text : goal.returns-then-options-clause-text
returns-then-options-clause-text g c =
    IfOk-weaker c.one_part.result _ _ (λ parts same. rw (c.if-options.true, ← c.graph.ensures.graph)
    (subst (IsDistanceText c.graph.result.now c.args.queries.now) (sym same) c.in_ok-text.ensures)) c.one_part.ensures.same

pub returns-clause-text : goal.returns-clause-text
returns-clause-text g c =
    let options = c.args.options.now in
    let network = c.args.loaded.graph in
    let H = c.in_ok-hierarchy.hierarchy in
    let serving = IsServing c.args.needed options.hops.number network c.args.loaded.saved in
    IfOk-weaker c.answers_by.result _ _ (λ parts by.
    text_among (writes_routes options) network (λ K. K ≡ H) serving (λ K is. subst serving (sym is) c.in_ok-hierarchy.ensures.serving)
    c.args.queries.now (bytes_of parts.items)
    (rw c.writes_routes.ensures at (by network c.in_ok-hierarchy.ensures.limits c.in_ok-hierarchy.ensures.kept)))
    c.answers_by.ensures.text
