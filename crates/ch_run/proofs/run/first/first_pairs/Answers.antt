-- The queries in front that are like the first one are nodes of the graph, and their text answers all of them.
use Rattle.std.proofs.Common.{◌≡◌, ◌<◌, refl, sym, ◌∙◌, ap, length}
use Rattle.ch_run.specs.Serving.{places_of}
use Rattle.ch_run.proofs.Answered.{asked_stay, split_answers}
use Rattle.ch_run.proofs.Gathered.{asked_within, first_answered, values_within}
use Rattle.ch_run.proofs.run.first.first_pairs.Goals as goal

pub answers_in-requires-clause-queries : goal.answers_in-requires-clause-queries
answers_in-requires-clause-queries g c = λ kept valid.
    let n = c.args.by.now.checked.now.graph.nodes in
    rw (c.deref.ensures.value, c.hierarchy.ensures.hierarchy, c.hierarchy.ensures.right.kept.nodes)
    (values_within c.in_ok-pairs.ensures n (λ query. (query.0 < n) × (query.1 < n)) (asked_within n c.args.routed) c.requires.each)

pub returns-clause-first : goal.returns-clause-first
returns-clause-first g c =
    let right = c.hierarchy.ensures.right in
    let text = rw (c.hierarchy.ensures.hierarchy, c.deref.ensures.value, c.has_routes.ensures) at c.in_ok-text.ensures.text in
    first_answered c.in_ok-pairs.ensures (asked_stay c.args.routed)
    (c.len-count.ensures ∙ sym c.deref.ensures.len ∙ ap length c.deref.ensures.value) refl
    (split_answers c.args.by.now.options.now c.args.routed c.args.by.now.checked.now.graph
    (λ K. K ≡ c.args.by.now.checked.now.hierarchy) (places_of c.args.room.now.near)
    c.in_ok-pairs.pairs.items c.in_ok-text.text.items (text c.args.by.now.checked.now.graph right.limits right.kept))
