-- One more query has its answer.
use Rattle.std.proofs.Common.{[], take, refl, sym, subst}
use Rattle.std.proofs.lemmas.List.{take_more}
use Rattle.ch_text.specs.Distances.{IsDistanceText}
use Rattle.ch_run.proofs.run.texts.plain_text.Goals as goal

pub loop-place-init : goal.loop-place-init
loop-place-init g c = rw c.new-text.ensures.items ([], tt, refl)

pub loop-place-preserved : goal.loop-place-preserved
loop-place-preserved g c =
    let queries = c.args.queries.now in
    let i = c.loop-place.place in
    subst (λ list. IsDistanceText c.args.graph.now list c.push_plain.new.text.items)
    (sym (take_more queries i (0, 0) c.loop-place-test.true))
    (c.in_ok-push_plain.ensures (take i queries) c.loop-place.invariant)
