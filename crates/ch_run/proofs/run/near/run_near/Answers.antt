-- The run goes as its story says at each end, so the output takes the near rows, or their first bytes.
use Rattle.std.proofs.Common.{inl, inr, refl, rules}
use Rattle.ch_run.proofs.Owed.{err_as}
use Rattle.ch_run.proofs.Stories.{near_told}
use Rattle.ch_run.proofs.Story.{ended, if_stops, loads_serving, loads_stops, sources_on, writes_none, writes_weaker}
use Rattle.ch_run.specs.declared.fault.Which.{Which}
use Rattle.ch_run.proofs.run.near.run_near.Goals as goal

pub returns-in_err-loaded : goal.returns-in_err-loaded
returns-in_err-loaded g c = ended (λ went. (near_told c.args.options.now _ went).later.1.1.written)
    (loads_stops _ _ _ _ _ _ c.from_residual.ensures.1 (refl, refl, refl) c.in_err-loaded.ensures.went) (search rules)

pub returns-in_err-sources : goal.returns-in_err-sources
returns-in_err-sources g c =
    let ends = rw c.graph.ensures.graph at c.in_err-sources.ensures.ends in
    let is = c.from_residual-in_err-sources.ensures.1 in
    ended (λ went. (near_told c.args.options.now _ went).later.1.1.written)
    (loads_serving _ _ _ _ _ _ _ (λ h place. if_stops _ Which.Sources _ _ _ _ _ _ is ends (refl, refl)) c.in_ok-loaded.ensures.went)
    (search rules)

pub returns-in_err-targets : goal.returns-in_err-targets
returns-in_err-targets g c =
    let from = rw c.graph.ensures.graph at c.in_ok-sources.ensures.value in
    let ends = err_as _ _ _ c.from_residual-in_err-targets.ensures.1 (rw c.graph-2.ensures.graph at c.in_err-targets.ensures.read) in
    ended (λ went. (near_told c.args.options.now _ went).later.1.1.written)
    (loads_serving _ _ _ _ _ _ _ (λ h place. sources_on _ _ _ _ _ _ _ from (λ listed same. inl (ends, refl))) c.in_ok-loaded.ensures.went)
    (search rules)

pub returns-in_err-parts : goal.returns-in_err-parts
returns-in_err-parts g c =
    let from = rw c.graph.ensures.graph at c.in_ok-sources.ensures.value in
    let to = rw c.graph-2.ensures.graph at c.in_ok-targets.ensures.read in
    ended (λ went. (near_told c.args.options.now _ went).later.1.1.written)
    (loads_serving _ _ _ _ _ _ _ (λ h place. sources_on _ _ _ _ _ _ _ from (λ listed same.
    inr (to.0, _, to.1, to.2, writes_none _ _ _ _ c.from_residual-in_err-parts.ensures.1))) c.in_ok-loaded.ensures.went) (search rules)

pub returns : goal.returns
returns g c =
    let from = rw c.graph.ensures.graph at c.in_ok-sources.ensures.value in
    let to = rw c.graph-2.ensures.graph at c.in_ok-targets.ensures.read in
    let text = rw c.deref.ensures.value at c.in_ok-parts.ensures.text in
    ended (λ went. (near_told c.args.options.now _ went).later.1.1.written)
    (loads_serving _ _ _ _ _ _ _ (λ h place. sources_on _ _ _ _ _ _ _ from (λ listed same.
    let wrote = writes_weaker _ _ _ _ _ c.write_parts.result (rw (c.deref-2.ensures.value, same) text) c.write_parts.ensures.wrote in
    inr (to.0, _, to.1, to.2, wrote))) c.in_ok-loaded.ensures.went) (search rules)
