-- The state of least weight is settled: one side goes on from its node, and the other stays the same.
use Rattle.std.proofs.Common.{◌≡◌, ℕ, ◌+◌, ◌<◌, List, length, Option, Some, None, refl, sym, ◌∙◌, ap, subst, arith, set, length-set}
use Rattle.std.proofs.Common.{inl, inr}
use Rattle.std.specs.Prelude.{slice_index_or, ◌⊎◌}
use Rattle.std.specs.Option.{option_map}
use Rattle.std.proofs.lemmas.Bool.{cases_lt}
use Rattle.std.proofs.lemmas.List.{get_or_past}
use Rattle.std.proofs.lemmas.Option.{none-some}
use Rattle.ch_graph.specs.declared.cost.Cost.{Cost}
use Rattle.ch_graph.specs.Cost.{IsAtMost}
use Rattle.ch_hierarchy.specs.Hierarchy.{LevelsAndLegs, nodes_of}
use Rattle.ch_hierarchy.specs.Ranked.{rank_of}
use Rattle.ch_hierarchy.specs.declared.side.Side.{Side}
use Rattle.ch_hierarchy.specs.Side.{rows_of, other, state_of}
use Rattle.ch_query.specs.declared.question.Ends.{Ends}
use Rattle.ch_query.specs.declared.weights.search.WeightSearch.{WeightSearch}
use Rattle.ch_query.specs.Search.{IsSettled, IsLeastKey, IsExpanding, OrNode, count_unsettled}
use Rattle.ch_query.specs.Weighed.{weighed}
use Rattle.ch_query.specs.Weights.{weight_cost, by_state, side_costs, side_keys, source_of, is_idle_on, IsWeighingOn, IsWeighingAt}
use Rattle.ch_query.specs.Weights.{IsSameSide, IsLeastState, without_state}
use Rattle.ch_query.proofs.one_side.Steps.{popped, popped_settled, popped_falls}
use Rattle.ch_query.proofs.by_weight.States.{by_state-size, by_state-at, by_state-set, by_state-other, by_state-some, key_weight}

-- a state with a key is a state
pub key_state : (queue : List (Option ℕ)) (state weight : ℕ) → slice_index_or queue state None ≡ Some weight → state < length queue
key_state queue state weight e =
    elim (cases_lt state (length queue)) [ inl lt ↦ lt | inr ge ↦ absurd (none-some weight (sym (get_or_past queue state None ge) ∙ e)) ]

-- the state of least weight is that of the node v on this side
module _ (H : LevelsAndLegs) (ends : Ends) (side : Side) (x : WeightSearch) (m : IsWeighingOn H ends side x) (v weight state : ℕ)
    (within : v < nodes_of H) (is : state ≡ state_of side (rank_of H v)) (l : IsLeastState x.queue (weight, state)) where
  -- v has the least key of its side
  pub least_on_side : IsLeastKey (side_keys H side x) v (weight_cost weight)
  least_on_side = record {
    has = by_state-at (option_map weight_cost) H side x.queue None None v within
        ∙ ap (option_map weight_cost) (ap (λ q. slice_index_or x.queue q None) (sym is) ∙ l.has);
    least = λ u d e.
        let there = by_state-some (option_map weight_cost) H side x.queue None u d e in
        let key = key_weight _ d there.1 in
        let low = l.least (state_of side (rank_of H u)) key.0 key.1 in
        subst (IsAtMost (weight_cost weight)) key.2 (low, λ same. omega arith);
  }

  -- the key of v leaves the keys of its side
  pub keys_here : side_keys H side (without_state x state) ≡ set (side_keys H side x) v None
  keys_here =
      ap (λ q. by_state (option_map weight_cost) H side (set x.queue q None) None) is
      ∙ by_state-set (option_map weight_cost) H side m.levelled x.queue None None v m.sizes.queue within

  -- no key leaves the keys of the other side
  keys_there : side_keys H (other side) (without_state x state) ≡ side_keys H (other side) x
  keys_there =
      ap (λ q. by_state (option_map weight_cost) H (other side) (set x.queue q None) None) is
      ∙ by_state-other (option_map weight_cost) H side x.queue None None (rank_of H v)

  -- v is a node of its side
  in_keys : v < length (side_keys H side x)
  in_keys = (let size = by_state-size (option_map weight_cost) H side x.queue None in omega arith)

  -- the legs of v are taken next
  pub pop_weighs : IsWeighingAt H ends side (without_state x state) v weight
  pop_weighs = record {
    levelled = m.levelled;
    sizes = record { known = m.sizes.known; queue = length-set x.queue state None ∙ m.sizes.queue; touched = m.sizes.touched };
    within = within;
    here = subst (λ q. IsExpanding ends.most (rows_of (weighed H) side) (source_of ends side)
        (OrNode (is_idle_on H side (source_of ends side)) v) (side_costs H side x) q v (weight_cost weight))
        (sym keys_here) (popped _ _ _ _ _ m.search v (weight_cost weight) least_on_side.has least_on_side.least in_keys);
  }

  -- the other side stays the same
  pub pop_there : IsSameSide H (other side) x (without_state x state)
  pop_there = record { costs = refl; keys = keys_there }

  -- a node that is settled now on this side was settled before, or is v
  pub pop_settled : (u : ℕ) (a : Cost) → IsSettled (side_costs H side x) (side_keys H side (without_state x state)) u a →
      IsSettled (side_costs H side x) (side_keys H side x) u a ⊎ ((u ≡ v) × (a ≡ weight_cost weight))
  pop_settled u a h = popped_settled _ _ _ _ _ m.search v (weight_cost weight) least_on_side.has least_on_side.least in_keys u a
      (subst (λ q. IsSettled (side_costs H side x) q u a) keys_here h)

  -- one node fewer is unsettled on this side
  pub pop_falls : count_unsettled (side_costs H side x) (side_keys H side (without_state x state)) + 1
      ≡ count_unsettled (side_costs H side x) (side_keys H side x)
  pop_falls = ap (λ q. count_unsettled (side_costs H side x) q + 1) keys_here
      ∙ popped_falls _ _ _ _ _ m.search v (weight_cost weight) least_on_side.has least_on_side.least in_keys
