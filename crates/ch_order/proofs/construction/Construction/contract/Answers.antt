-- The neighbours of a contracted node are nodes and few enough, and with their new keys the construction has made a step.
use Rattle.std.proofs.Common.{◌<◌, ◌∙◌, sym, subst, arith}
use Rattle.std.specs.Prelude.{All}
use Rattle.ch_order.specs.Priorities.{IsKeyIn}
use Rattle.ch_contract.proofs.code.NodeBounds.{neighbours_within}
use Rattle.ch_order.proofs.ConstructionCalls.{lent_refreshed, stepped, neighbours_count}
use Rattle.ch_order.proofs.construction.Construction.contract.Goals as goal

pub refresh-requires-clause-nodes : goal.refresh-requires-clause-nodes
refresh-requires-clause-nodes g c lifetimes bounds =
    let t = c.in_ok-taken.ensures.taken in
    let list = c.as_slice-2.ensures ∙ t.listed in
    subst (λ n. All (λ x. x < n) c.as_slice-2.result.now) (sym t.nodes)
    (neighbours_within _ _ _ _ _ _ t.up.legs t.down.legs c.requires.next.limits list)

pub refresh-requires-clause-count : goal.refresh-requires-clause-count
refresh-requires-clause-count g c lifetimes bounds =
    let t = c.in_ok-taken.ensures.taken in
    let few = neighbours_count _ _ _ _ _ _ c.requires.next.limits t.up.legs t.down.legs (c.as_slice-2.ensures ∙ t.listed) in
    let most = c.requires.next.sizes.nodes in
    omega arith

pub refresh-requires-clause-ready : goal.refresh-requires-clause-ready
refresh-requires-clause-ready g c lifetimes bounds = c.in_ok-taken.ensures.taken.ready.0

pub returns-clause-step : goal.returns-clause-step
returns-clause-step g c =
    let taken = c.in_ok-taken.taken in
    let next = c.requires.next in
    let anew = lent_refreshed (λ d. IsKeyIn c.args.keys taken.remaining c.args.hops.number d) _ _ _ _ _ _ c.as_slice.ensures.value
    c.as_slice-2.ensures c.in_ok-refresh.ensures.anew in
    stepped c.args.keys c.args.hops.number c.args.self c.args.node _ taken _ next.node next.limits next.sizes c.in_ok-taken.ensures.taken
    anew
