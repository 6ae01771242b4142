-- The run ends while it loads, or answers the requests by the hierarchy that it loaded or built.
use Rattle.std.proofs.Common.{inl, inr, refl}
use Rattle.ch_run.proofs.AskStory.{ask_told}
use Rattle.ch_run.proofs.Owed.{ends_as}
use Rattle.ch_run.proofs.Served.{serves_from}
use Rattle.ch_run.proofs.Story.{loads_serving, loads_stops}
use Rattle.ch_run.proofs.run.ask.run_ask.Goals as goal

-- the story, as far as it went
pub returns-in_err-loaded-clause-went : goal.returns-in_err-loaded-clause-went
returns-in_err-loaded-clause-went g c = loads_stops _ _ _ _ _ _ c.from_residual.ensures.1 (refl, refl) c.in_err-loaded.ensures.went

pub returns-in_err-checked-clause-went : goal.returns-in_err-checked-clause-went
returns-in_err-checked-clause-went g c = loads_serving _ _ _ _ _ _ _
    (λ h place. inl (ends_as _ _ c.from_residual-in_err-checked.ensures.1, refl, refl)) c.in_ok-loaded.ensures.went

pub returns-clause-went : goal.returns-clause-went
returns-clause-went g c =
    let options = c.args.options.now in
    let network = c.in_ok-loaded.loaded.graph in
    let H = c.in_ok-checked.checked.hierarchy in
    loads_serving _ _ _ _ _ _ _
    (λ h place. inr (
      H,
      rw c.by_requests-needed.ensures at (place options.hops.number H c.in_ok-checked.ensures.serving),
      serves_from options _ network.nodes c.in_ok-loaded.loaded.frame c.in_ok-loaded.ensures.frame refl
          (rw (c.in_ok-checked.ensures.graph, c.in_ok-checked.ensures.frame) at c.serve.ensures),
    ))
    c.in_ok-loaded.ensures.went

-- so the requests were served
pub returns-in_err-loaded-clause-served : goal.returns-in_err-loaded-clause-served
returns-in_err-loaded-clause-served g c = (ask_told c.args.options.now (returns-in_err-loaded-clause-went g c)).later.2

pub returns-in_err-checked-clause-served : goal.returns-in_err-checked-clause-served
returns-in_err-checked-clause-served g c = (ask_told c.args.options.now (returns-in_err-checked-clause-went g c)).later.2

pub returns-clause-served : goal.returns-clause-served
returns-clause-served g c = (ask_told c.args.options.now (returns-clause-went g c)).later.2
