-- A state that is not reached has no key.
use Rattle.std.proofs.Common.{◌≡◌, ℕ, ◌<◌, None, sym, ◌∙◌, ap, arith, get_or}
use Rattle.std.specs.Option.{option_map}
use Rattle.std.proofs.lemmas.List.{get_or_default}
use Rattle.std.proofs.lemmas.Option.{none-some}
use Rattle.ch_hierarchy.specs.Hierarchy.{LevelsAndLegs, nodes_of}
use Rattle.ch_hierarchy.specs.Ranked.{rank_of}
use Rattle.ch_hierarchy.specs.declared.side.Side.{Side}
use Rattle.ch_hierarchy.specs.Side.{state_of}
use Rattle.ch_hierarchy.proofs.code.Ranked.{rank_below}
use Rattle.ch_graph.specs.declared.cost.TheConstants.{UNREACHED}
use Rattle.ch_query.specs.declared.question.Ends.{Ends}
use Rattle.ch_query.specs.declared.weights.search.WeightSearch.{WeightSearch}
use Rattle.ch_query.specs.Weights.{known_cost, weight_cost, IsCleanFor, IsWeighingAt, UnreachedStateIsUnkeyed}
use Rattle.ch_query.proofs.one_side.Touched.{none_unless}
use Rattle.ch_query.proofs.by_weight.Known.{no_cost_known}
use Rattle.ch_query.proofs.by_weight.States.{by_state-at, state_below}

-- in a clean search no state has a key
pub clean_none : (n : ℕ) (x : WeightSearch) → IsCleanFor n x → (state : ℕ) → get_or x.queue state None ≡ None
clean_none n x clean state = none_unless (get_or x.queue state None) (clean.queue state)

-- in a search that is taking the legs of a node, an unreached state of that side has no key
pub unreached_here : (H : LevelsAndLegs) (ends : Ends) (side : Side) (x : WeightSearch) (v weight : ℕ) →
    IsWeighingAt H ends side x v weight → (u state : ℕ) →
    u < nodes_of H → state ≡ state_of side (rank_of H u) → UnreachedStateIsUnkeyed x state
unreached_here H ends side x v weight m u state within is unreached = none_unless (get_or x.queue state None) (λ w key.
    let low = state_below side (rank_of H u) (nodes_of H) (rank_below H m.levelled u within) in
    let size = m.sizes.known in
    let queued = by_state-at (option_map weight_cost) H side x.queue None None u within
    ∙ ap (λ q. option_map weight_cost (get_or x.queue q None)) (sym is) ∙ ap (option_map weight_cost) key in
    let known = by_state-at known_cost H side x.known.items UNREACHED None u within
    ∙ ap (λ q. known_cost (get_or x.known.items q UNREACHED)) (sym is) in
    let read : get_or x.known.items state UNREACHED ≡ UNREACHED = sym (get_or_default x.known.items state _ UNREACHED (omega arith))
    ∙ unreached in
    none-some (weight_cost w) (sym (no_cost_known _ read) ∙ sym known ∙ m.here.search.queued u (weight_cost w) queued))
