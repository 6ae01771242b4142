-- The run goes as its story says at each end, so the output takes the text that answers the queries, or its first bytes.
use Rattle.std.proofs.Common.{inl, inr, refl, rules}
use Rattle.ch_run.proofs.Owed.{err_as}
use Rattle.ch_run.proofs.Stories.{dist_told}
use Rattle.ch_run.proofs.Story.{ended, loads_serving, loads_stops, writes_none, writes_weaker}
use Rattle.ch_run.proofs.Texts.{text_of_needed}
use Rattle.ch_run.proofs.run.dist.run_dist.Goals as goal

pub returns-in_err-loaded : goal.returns-in_err-loaded
returns-in_err-loaded g c = ended (λ went. (dist_told c.args.options.now went).later.1.written)
    (loads_stops _ _ _ _ _ _ c.from_residual.ensures.1 (refl, refl) c.in_err-loaded.ensures.went) (search rules)

pub returns-in_err-queries : goal.returns-in_err-queries
returns-in_err-queries g c =
    let ends = rw c.graph.ensures.graph at c.in_err-queries.ensures.read in
    ended (λ went. (dist_told c.args.options.now went).later.1.written)
    (loads_serving _ _ _ _ _ _ _ (λ h place. inl (err_as _ _ _ c.from_residual-in_err-queries.ensures.1 ends, refl))
    c.in_ok-loaded.ensures.went) (search rules)

pub returns-in_err-parts : goal.returns-in_err-parts
returns-in_err-parts g c =
    let read = rw c.graph.ensures.graph at c.in_ok-queries.ensures.read in
    ended (λ went. (dist_told c.args.options.now went).later.1.written)
    (loads_serving _ _ _ _ _ _ _ (λ h place.
    inr (read.0, _, read.1, read.2, writes_none _ _ _ _ c.from_residual-in_err-parts.ensures.1)) c.in_ok-loaded.ensures.went) (search rules)

pub returns : goal.returns
returns g c =
    let read = rw c.graph.ensures.graph at c.in_ok-queries.ensures.read in
    let options = c.args.options.now in
    let loaded = c.in_ok-loaded.loaded in
    ended (λ went. (dist_told options went).later.1.written)
    (loads_serving _ _ _ _ _ _ _ (λ h place.
    let mine = text_of_needed options _ c.by_queries-needed.ensures loaded.graph h loaded.saved (place options.hops.number) _ _
    c.in_ok-parts.ensures.text in
    let wrote = writes_weaker _ _ _ _ _ c.write_parts.result (rw c.deref-2.ensures.value (rw c.deref.ensures.value at mine))
    c.write_parts.ensures.wrote in
    inr (read.0, _, read.1, read.2, wrote))
    c.in_ok-loaded.ensures.went) (search rules)
