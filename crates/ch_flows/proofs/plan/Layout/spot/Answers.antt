-- The place is within the list of all legs.
use Rattle.std.proofs.Common.{◌≡◌, ◌<◌, ◌*◌, ℕ, get_or, ap, subst, ◌∙◌, arith}
use Rattle.std.proofs.lemmas.List.{get_or_default}
use Rattle.ch_hierarchy.specs.Hierarchy.{nodes_of}
use Rattle.ch_hierarchy.specs.Side.{state_of}
use Rattle.ch_query.proofs.by_weight.States.{state_below}
use Rattle.ch_flows.specs.Layouts.{IsSpot, state_at}
use Rattle.ch_flows.proofs.plan.Layout.spot.Goals as goal

pub overflow_add-result : goal.overflow_add-result
overflow_add-result c =
    let H = c.args.hierarchy.now in
    let side = c.args.side in
    let low = c.args.low in
    let k = c.args.k in
    let starts = c.args.self.now.starts.items in
    let rank = c.rank.ensures in
    let state : c.state.result ≡ state_at H side low = c.state.ensures ∙ ap (state_of side) rank.rank in
    let below : state_at H side low < 2 * nodes_of H =
    subst (λ (r : ℕ). state_of side r < 2 * nodes_of H) rank.rank (state_below side c.rank.result (nodes_of H) rank.within) in
    let spot : IsSpot H (2 * nodes_of H) side low k =
    record { node = c.requires.low; state = below; leg = c.requires.leg } in
    let within = c.requires.laid.within side low k spot in
    let at : c.index.result.now ≡ get_or starts (state_at H side low) 0 =
    c.index.ensures ∙ get_or_default starts c.state.result c.index.result.now 0 (omega (arith, state, below, c.requires.laid.count))
    ∙ ap (λ (n : ℕ). get_or starts n 0) state in
    let small = c.args.self.now.links.small in
    let ok = c.args.self.now.links.ok in
    omega (arith, within, at, small, ok)
