-- Legs that are taken one after the other, on one side of a search by weights alone.
use Rattle.std.proofs.Common.{◌≡◌, ℕ, ◌+◌, ◌<◌, ◌≤◌, List, [], ◌∷◌, ◌++◌, length, map, take, Contains, Option, Some, None, refl}
use Rattle.std.proofs.Common.{sym, ◌∙◌, ap, subst, arith, get_or, set, length-set, inl, inr}
use Rattle.std.specs.Option.{option_map}
use Rattle.std.proofs.lemmas.List.{get_or_default}
use Rattle.std.proofs.lemmas.List.Elements.{Contains-push_cases}
use Rattle.ch_graph.specs.declared.cost.TheConstants.{UNREACHED}
use Rattle.ch_graph.specs.declared.limits.TheConstants.{MOST_WEIGHT}
use Rattle.ch_graph.specs.declared.cost.Cost.{Cost}
use Rattle.ch_graph.specs.Cost.{cost_at, cost_sum}
use Rattle.ch_hierarchy.specs.declared.leg.Leg.{Leg}
use Rattle.ch_hierarchy.specs.declared.ranked.RankedLeg.{RankedLeg}
use Rattle.ch_hierarchy.specs.Rows.{row}
use Rattle.ch_hierarchy.specs.Hierarchy.{LevelsAndLegs, nodes_of}
use Rattle.ch_hierarchy.specs.Ranked.{rank_of}
use Rattle.ch_hierarchy.specs.declared.side.Side.{Side}
use Rattle.ch_hierarchy.specs.Side.{rows_of, other, state_of}
use Rattle.ch_query.specs.declared.question.Ends.{Ends}
use Rattle.ch_query.specs.declared.weights.search.WeightSearch.{WeightSearch}
use Rattle.ch_query.specs.Search.{IsSettled, IsRelaxedFrom, IsExpanding, OrNode, count_unsettled, WouldLower}
use Rattle.ch_query.specs.Underway.{IsTouched}
use Rattle.ch_query.specs.Weighed.{weighed, weighed_leg, IsWeightSearchTo}
use Rattle.ch_query.specs.Weights.{known_cost, weight_cost, by_state, side_costs, side_keys, source_of, is_idle_on, IsSizedFor}
use Rattle.ch_query.specs.Weights.{IsWeighingOn, IsSameSide, HasGoneOn, count_unsettled_on, ShowsWeight}
use Rattle.ch_query.specs.Weights.{IsWeighingAt, IsPartlyWeighed}
use Rattle.ch_query.proofs.one_side.Steps.{lowered, lowered_settled, lowered_stays, lowered_keeps, lowered_relaxes, lowered_counts}
use Rattle.ch_query.proofs.one_side.Steps.{expanded}
use Rattle.ch_query.proofs.by_weight.Known.{light_cost, known_weight}
use Rattle.ch_query.proofs.by_weight.LegsRead.{IsReadLeg, read_state}
use Rattle.ch_query.proofs.by_weight.States.{by_state-size, by_state-at, by_state-set, by_state-other}

-- a side without changes is still a search
pub side_stays : (H : LevelsAndLegs) (ends : Ends) (side : Side) (x y : WeightSearch) → IsWeighingOn H ends side x →
    IsSameSide H side x y → IsSizedFor (nodes_of H) y → IsWeighingOn H ends side y
side_stays H ends side x y m stays sizes = record {
  levelled = m.levelled;
  sizes = sizes;
  search = subst (λ q. IsWeightSearchTo ends.most H side (source_of ends side) q (side_keys H side y)) (sym stays.costs)
      (subst (IsWeightSearchTo ends.most H side (source_of ends side) (side_costs H side x)) (sym stays.keys) m.search);
}

-- the conditions on the costs and keys of a side that is taking the legs of v
abbrev ExpandingOn : ℕ → LevelsAndLegs → Side → ℕ → List (Option Cost) → List (Option Cost) → ℕ → ℕ → Type 0
ExpandingOn most H side s best queue v weight =
    IsExpanding most (rows_of (weighed H) side) s (OrNode (is_idle_on H side s) v) best queue v (weight_cost weight)

-- a leg is offered to this side
module _ (H : LevelsAndLegs) (ends : Ends) (side : Side) (x y z : WeightSearch) (v weight : ℕ) (legs : List Leg)
    (p : IsPartlyWeighed H ends side x y v weight legs) (l : Leg)
    (touched : IsTouched (map known_cost z.known.items) z.touched) where
  -- one more leg is taken, where the other side stays the same
  partly_by : (best queue : List (Option Cost)) → side_costs H side z ≡ best → side_keys H side z ≡ queue → IsSameSide H (other side) y z →
      (length z.known.items ≡ length y.known.items) × (length z.queue ≡ length y.queue) →
      ExpandingOn ends.most H side (source_of ends side) best queue v weight →
      ((k : Leg) → Contains (legs ++ l ∷ []) k → IsRelaxedFrom ends.most best (weight_cost weight) k) →
      ((w : ℕ) (c : Cost) → IsSettled best queue w c → IsSettled (side_costs H side y) (side_keys H side y) w c) →
      ((w : ℕ) (c : Cost) → IsSettled (side_costs H side y) (side_keys H side y) w c → IsSettled best queue w c) →
      count_unsettled best queue ≡ count_unsettled_on H side y → IsPartlyWeighed H ends side x z v weight (legs ++ l ∷ [])
  partly_by best queue e f there sizes expanding relaxed settled stays counts = record {
    weighing = record {
      levelled = p.weighing.levelled;
      sizes = record { known = sizes.0 ∙ p.weighing.sizes.known; queue = sizes.1 ∙ p.weighing.sizes.queue; touched = touched };
      within = p.weighing.within;
      here = subst (λ q. ExpandingOn ends.most H side (source_of ends side) q (side_keys H side z) v weight) (sym e)
          (subst (λ q. ExpandingOn ends.most H side (source_of ends side) best q v weight) (sym f) expanding);
    };
    relaxed = subst (λ q. (k : Leg) → Contains (legs ++ l ∷ []) k → IsRelaxedFrom ends.most q (weight_cost weight) k) (sym e) relaxed;
    there = record { costs = there.costs ∙ p.there.costs; keys = there.keys ∙ p.there.keys };
    settled = λ w c k. p.settled w c (settled w c (sym (ap (λ q. cost_at q w) e) ∙ k.0, sym (ap (λ q. cost_at q w) f) ∙ k.1));
    stays = λ w c k. let now = stays w c (p.stays w c k) in (ap (λ q. cost_at q w) e ∙ now.0, ap (λ q. cost_at q w) f ∙ now.1);
    measure = ap (λ q. count_unsettled q (side_keys H side z)) e ∙ ap (count_unsettled best) f ∙ counts ∙ p.measure;
  }

  -- the case where the leg shows no lower weight
  partly_same : (z.known.items ≡ y.known.items) → (z.queue ≡ y.queue) → IsRelaxedFrom ends.most (side_costs H side y) (weight_cost weight)
      l →
      IsPartlyWeighed H ends side x z v weight (legs ++ l ∷ [])
  partly_same e f relaxed = partly_by (side_costs H side y) (side_keys H side y)
      (ap (λ q. by_state known_cost H side q UNREACHED) e) (ap (λ q. by_state (option_map weight_cost) H side q None) f)
      (record {
        costs = ap (λ q. by_state known_cost H (other side) q UNREACHED) e;
        keys =
            ap (λ q. by_state (option_map weight_cost) H (other side) q None) f;
      })
      (ap length e, ap length f) p.weighing.here
      (λ k of. elim (Contains-push_cases legs l k of) [
        | inl old ↦ p.relaxed k old
        | inr is ↦
            subst (IsRelaxedFrom ends.most (side_costs H side y) (weight_cost weight)) is relaxed
      ])
      (λ w c k. k) (λ w c k. k) refl

  -- the case where the leg shows a lower weight
  partly_less : (has : Contains (row (rows_of (weighed H) side) v) l) (within : l.node < nodes_of H) (sum : ℕ) →
      cost_sum (weight_cost weight) l.cost ≡ weight_cost sum →
      sum ≤ ends.most → WouldLower (side_costs H side y) l.node (cost_sum (weight_cost weight) l.cost) →
      (z.known.items ≡ set y.known.items (state_of side (rank_of H l.node)) sum) →
      (z.queue ≡ set y.queue (state_of side (rank_of H l.node)) (Some sum)) →
      IsPartlyWeighed H ends side x z v weight (legs ++ l ∷ [])
  partly_less has within sum is fits lower e f =
      let k = p.weighing.levelled in
      let s = p.weighing.here in
      let weight_is = ap (λ (c : Cost). c.weight) is in
      let low : weight + l.cost.weight ≤ ends.most = omega arith in
      let light : sum ≤ MOST_WEIGHT = (let most = s.search.limits in omega arith) in
      let best = set (side_costs H side y) l.node (Some (cost_sum (weight_cost weight) l.cost)) in
      let queue = set (side_keys H side y) l.node (Some (cost_sum (weight_cost weight) l.cost)) in
      partly_by best queue
      (ap (λ q. by_state known_cost H side q UNREACHED) e
      ∙ by_state-set known_cost H side k y.known.items UNREACHED sum l.node p.weighing.sizes.known within
      ∙ ap (set (side_costs H side y) l.node) (light_cost sum light ∙ ap Some (sym is)))
      (ap (λ q. by_state (option_map weight_cost) H side q None) f
      ∙ by_state-set (option_map weight_cost) H side k y.queue None (Some sum) l.node p.weighing.sizes.queue within
      ∙ ap (λ q. set (side_keys H side y) l.node (Some q)) (sym is))
      (record {
        costs = ap (λ q. by_state known_cost H (other side) q UNREACHED) e
            ∙ by_state-other known_cost H side y.known.items UNREACHED sum (rank_of H l.node);
        keys = ap (λ q. by_state (option_map weight_cost) H (other side) q None) f
            ∙ by_state-other (option_map weight_cost) H side y.queue None (Some sum) (rank_of H l.node);
      }) (
        ap length e ∙ length-set y.known.items (state_of side (rank_of H l.node)) sum,
        ap length f
            ∙ length-set y.queue (state_of side (rank_of H l.node)) (Some sum),
      )
      (lowered _ _ _ _ _ v (weight_cost weight) s l has low lower)
      (λ m of. elim (Contains-push_cases legs l m of) [
        | inl old ↦ lowered_keeps _ _ _ _ _ v (weight_cost weight) s l has low lower (weight_cost weight) m (p.relaxed m old)
        | inr is_last ↦ subst (IsRelaxedFrom ends.most best (weight_cost weight)) is_last
            (lowered_relaxes _ _ _ _ _ v (weight_cost weight) s l has low lower)
      ])
      (lowered_settled _ _ _ _ _ v (weight_cost weight) s l has low lower)
      (lowered_stays _ _ _ _ _ v (weight_cost weight) s l has low lower)
      (lowered_counts _ _ _ _ _ v (weight_cost weight) s l has low lower)

-- before the first leg the search is the same
pub partly_none : (H : LevelsAndLegs) (ends : Ends) (side : Side) (x : WeightSearch) (v weight : ℕ) → IsWeighingAt H ends side x v weight →
    IsPartlyWeighed H ends side x x v weight []
partly_none H ends side x v weight w = record {
  weighing = w;
  relaxed = λ l has. absurd (let lt = has.1 in omega arith);
  there = record { costs = refl; keys = refl };
  settled = λ u c is. is;
  stays = λ u c is. is;
  measure = refl;
}

-- the leg at place i is taken
pub partly_more : (H : LevelsAndLegs) (ends : Ends) (side : Side) (x y z : WeightSearch) (v weight i : ℕ) (r : RankedLeg) (l : Leg)
    (state : ℕ) →
    IsPartlyWeighed H ends side x y v weight (take i (row (rows_of (weighed H) side) v)) → IsReadLeg H side v i r l →
    state ≡ state_of side r.rank →
    ShowsWeight ends.most y state (weight + r.weight) z → IsTouched (map known_cost z.known.items) z.touched →
    IsPartlyWeighed H ends side x z v weight (take (i + 1) (row (rows_of (weighed H) side) v))
partly_more H ends side x y z v weight i r l state p is at shows touched =
    let legs = take i (row (rows_of (weighed H) side) v) in
    let known = y.known.items in
    let there = read_state H p.weighing.levelled side side v i r l is state at in
    let size = p.weighing.sizes.known in
    let within : state < length known = omega arith in
    let rank = is.rank in
    let heavy = is.weight in
    let stands : cost_at (side_costs H side y) l.node ≡ known_cost (get_or known state 0) =
    by_state-at known_cost H side known UNREACHED None l.node is.node ∙ ap (λ q. known_cost (get_or known q UNREACHED)) (sym there.0)
    ∙ ap known_cost (get_or_default known state UNREACHED 0 within) in
    let nodes = by_state-size known_cost H side known UNREACHED in
    let node = is.node in
    subst (IsPartlyWeighed H ends side x z v weight) (sym is.more) (elim shows [
      | inl (e, f, most) ↦ partly_same H ends side x y z v weight legs p (weighed_leg l) touched e f (λ low.
          let most' = most (omega arith) in
          (weight_cost (get_or known state 0), stands ∙ light_cost (get_or known state 0) (omega arith), (omega arith, λ _. omega arith)))
      | inr (light, less, e, f) ↦
          let sum : weight + r.weight ≡ weight + l.cost.weight = omega arith in
          partly_less H ends side x y z v weight legs p (weighed_leg l) touched is.has is.node (weight + r.weight)
          (ap weight_cost (sym sum)) light
          (record {
            within = omega arith;
            lower = λ c known_there.
                let c_is = known_weight (get_or known state 0) c (sym stands ∙ known_there) in
                (omega arith, λ le. absurd (omega arith));
          })
          (e ∙ ap (λ q. set known q (weight + r.weight)) there.0) (f ∙ ap (λ q. set y.queue q (Some (weight + r.weight))) there.0)
    ])

-- all legs are taken
pub partly_whole : (H : LevelsAndLegs) (ends : Ends) (side : Side) (x y : WeightSearch) (v weight : ℕ) (legs : List Leg) →
    IsPartlyWeighed H ends side x y v weight legs →
    legs ≡ row (rows_of (weighed H) side) v → HasGoneOn H ends side x y
partly_whole H ends side x y v weight legs p e = record {
  weighing = record {
    levelled = p.weighing.levelled;
    sizes = p.weighing.sizes;
    search = expanded _ _ _ _ _ v (weight_cost weight) p.weighing.here (λ l of. p.relaxed l (subst (λ q. Contains q l) (sym e) of));
  };
  there = p.there;
  settled = p.settled;
  stays = p.stays;
  measure = p.measure;
}
