-- The neighbours of a contracted node are nodes, and with their new keys the construction has made a step.
use Rattle.std.proofs.Common.{◌<◌, ◌∙◌, sym, subst}
use Rattle.std.specs.Prelude.{All}
use Rattle.ch_order.specs.Priorities.{IsKeyIn}
use Rattle.ch_contract.proofs.code.NodeBounds.{neighbours_within}
use Rattle.ch_order.proofs.ConstructionCalls.{lent_refreshed, stepped}
use Rattle.ch_order.proofs.construction.Construction.contract_alone.Goals as goal

pub refresh_here-requires-clause-nodes : goal.refresh_here-requires-clause-nodes
refresh_here-requires-clause-nodes c =
    let t = c.in_ok-taken.ensures.taken in
    let list = c.as_slice-2.ensures ∙ t.listed in
    subst (λ n. All (λ x. x < n) c.as_slice-2.result.now) (sym t.nodes)
    (neighbours_within _ _ _ _ _ _ t.up.legs t.down.legs c.requires.next.limits list)

pub returns-clause-step : goal.returns-clause-step
returns-clause-step c =
    let taken = c.in_ok-taken.taken in
    let next = c.requires.next in
    let anew = lent_refreshed (λ d. IsKeyIn c.args.keys taken.remaining c.args.hops.number d) _ _ _ _ _ _ c.as_slice.ensures.value
    c.as_slice-2.ensures c.in_ok-refresh_here.ensures.anew in
    stepped c.args.keys c.args.hops.number c.args.self c.args.node _ taken _ next.node next.limits next.sizes c.in_ok-taken.ensures.taken
    anew
