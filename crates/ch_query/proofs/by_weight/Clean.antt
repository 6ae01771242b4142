-- A search with nothing left from an earlier one.
use Rattle.std.proofs.Common.{◌≡◌, ℕ, zero, suc, ◌*◌, ◌≤◌, [], ◌∷◌, length, map, replicate, Option, Some, None, refl, sym, ◌∙◌, ap}
use Rattle.std.proofs.Common.{subst, arith, set, length-set, ◌+◌, ◌++◌, vec_len, List, Vec, inl, inr}
use Rattle.std.specs.Prelude.{◌≢◌, slice_index_or, vec_capacity, is_some, AllPairs, Contains}
use Rattle.std.specs.declared.alloc.Global.{Global}
use Rattle.std.proofs.lemmas.Bool.{cases_lt}
use Rattle.std.proofs.lemmas.List.{get_or_past, get_or-replicate, length-replicate}
use Rattle.std.proofs.lemmas.Option.{none-some}
use Rattle.ch_graph.specs.declared.cost.Cost.{Cost}
use Rattle.ch_graph.specs.Cost.{cost_at}
use Rattle.ch_hierarchy.specs.Hierarchy.{LevelsAndLegs, nodes_of, IsLevelled}
use Rattle.ch_hierarchy.proofs.code.Ranked.{rank_below}
use Rattle.ch_hierarchy.specs.Ranked.{rank_of}
use Rattle.ch_hierarchy.specs.declared.side.Side.{Side}
use Rattle.ch_hierarchy.specs.Side.{state_of}
use Rattle.ch_graph.specs.declared.cost.TheConstants.{UNREACHED}
use Rattle.ch_query.specs.declared.weights.search.WeightSearch.{WeightSearch}
use Rattle.ch_query.specs.Weights.{known_cost, weight_cost, side_costs, side_keys, IsSizedFor, IsCleanFor}
use Rattle.ch_query.specs.Underway.{IsTouched}
use Rattle.ch_query.proofs.one_side.Touched.{untouched, touched_less}
use Rattle.ch_query.proofs.by_weight.States.{by_state-some, key_weight, state_below}
use Rattle.ch_query.proofs.by_weight.Known.{known_at, known_cleared}
use Rattle.ch_query.proofs.one_side.Begun.{never_some}
use Rattle.std.specs.Option.{option_map}

-- states of weight UNREACHED have no costs
none_reached : (n : ℕ) → map known_cost (replicate n UNREACHED) ≡ replicate n None
none_reached zero = refl
none_reached (suc n) = λ i. None ∷ none_reached n i

-- a queue without keys has no key at any state
no_key : (n state weight : ℕ) → slice_index_or {A = Option ℕ} (replicate n None) state None ≡ Some weight → ⊥
no_key n state weight e = elim (cases_lt state n) [
  | inl lt ↦ none-some weight (sym (get_or-replicate {A = Option ℕ} n state None None lt) ∙ e)
  | inr ge ↦ none-some weight
      (sym (get_or_past (replicate n None) state None (let size = length-replicate {A = Option ℕ} n None in omega arith)) ∙ e)
]

-- a search with new lists is clean
pub clean_at_first : (n states : ℕ) (x : WeightSearch) → states ≡ 2 * n → x.known.items ≡ replicate states UNREACHED →
    x.queue ≡ replicate states None →
    x.touched.items ≡ [] → vec_len x.touched ≡ 0 → states ≤ vec_capacity x.touched → IsCleanFor n x
clean_at_first n states x twice known queue items len capacity = record {
  sizes = record {
    known = ap length known ∙ length-replicate states UNREACHED ∙ twice;
    queue = ap length queue ∙ length-replicate {A = Option ℕ} states None ∙ twice;
    touched = untouched states (map known_cost x.known.items) x.touched (ap (map known_cost) known ∙ none_reached states) items len
        capacity;
  };
  queue = λ state weight e. no_key states state weight (sym (ap (λ q. slice_index_or q state None) queue) ∙ e);
  nothing = len;
}

-- a copy of the list of touched states lists the same states
pub listed_alike : (best : List (Option Cost)) (xs ys : Vec ℕ Global) → IsTouched best xs → ys.items ≡ xs.items → vec_len ys ≡ vec_len xs →
    vec_capacity ys ≡ vec_capacity xs → IsTouched best ys
listed_alike best xs ys t items len capacity = record {
  room = (let room = t.room in omega arith);
  count = len ∙ t.count;
  reached = λ v h. t.reached v (subst (λ q. Contains q v) items h);
  listed = λ v k. subst (λ q. Contains q v) (sym items) (t.listed v k);
  distinct = subst (AllPairs ◌≢◌) (sym items) t.distinct;
}

-- one reached state fewer after its weight was removed
pub one_less : (n : ℕ) (x y : WeightSearch) (state : ℕ) → IsSizedFor n x → y.known.items ≡ set x.known.items state UNREACHED →
    y.queue ≡ x.queue → x.touched.items ≡ y.touched.items ++ state ∷ [] →
    vec_len y.touched + 1 ≡ vec_len x.touched → vec_capacity y.touched ≡ vec_capacity x.touched → IsSizedFor n y
one_less n x y state sizes known queue items len capacity = record {
  known = ap length known ∙ length-set x.known.items state UNREACHED ∙ sizes.known;
  queue = ap length queue ∙ sizes.queue;
  touched = subst (λ costs. IsTouched costs y.touched) (sym (ap (map known_cost) known ∙ known_cleared x.known.items state))
      (touched_less _ _ y.touched sizes.touched state items len capacity);
}

-- in a clean search no node has a cost
pub clean_costs : (H : LevelsAndLegs) (side : Side) (x : WeightSearch) → IsCleanFor (nodes_of H) x → IsLevelled H → (v : ℕ) →
    cost_at (side_costs H side x) v ≡ None
clean_costs H side x clean k v = never_some _ (λ c is.
    let there = by_state-some known_cost H side x.known.items UNREACHED v c is in
    let low = state_below side (rank_of H v) (nodes_of H) (rank_below H k v there.0) in
    let size = clean.sizes.known in
    let known = known_at x.known.items (state_of side (rank_of H v)) UNREACHED (omega arith) ∙ there.1 in
    let listed = clean.sizes.touched.listed (state_of side (rank_of H v)) (ap is_some known) in
    let lt = listed.1 in
    let none = clean.nothing in
    omega arith)

-- in a clean search no node has a key
pub clean_keys : (H : LevelsAndLegs) (side : Side) (x : WeightSearch) → IsCleanFor (nodes_of H) x → (v : ℕ) →
    cost_at (side_keys H side x) v ≡ None
clean_keys H side x clean v = never_some _ (λ c is.
    let there = by_state-some (option_map weight_cost) H side x.queue None v c is in
    let key = key_weight _ c there.1 in
    clean.queue (state_of side (rank_of H v)) key.0 key.1)
