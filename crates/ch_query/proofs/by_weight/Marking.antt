-- Marks, leg by leg: a leg marks its end, and leaves the marks of earlier legs right.
use Rattle.std.proofs.Common.{◌≡◌, ℕ, ◌+◌, ◌*◌, ◌<◌, ◌≤◌, List, [], length, take, Contains, Some, None, refl, sym, ◌∙◌, ap}
use Rattle.std.proofs.Common.{subst, arith, get_or, set, length-set, get_or-set_same, get_or-set_other, inl, inr}
use Rattle.std.specs.Prelude.{◌⊎◌}
use Rattle.std.proofs.lemmas.Bool.{cases_eq}
use Rattle.std.proofs.lemmas.Option.{same_Some}
use Rattle.std.proofs.lemmas.List.{get_or_default}
use Rattle.std.proofs.lemmas.List.Elements.{Contains-push_cases}
use Rattle.ch_graph.specs.declared.cost.TheConstants.{UNREACHED}
use Rattle.ch_graph.specs.declared.limits.TheConstants.{MOST_WEIGHT}
use Rattle.ch_graph.specs.declared.cost.Cost.{Cost}
use Rattle.ch_graph.specs.Cost.{cost_at, cost_sum}
use Rattle.ch_hierarchy.specs.declared.leg.Leg.{Leg}
use Rattle.ch_hierarchy.specs.declared.ranked.RankedLeg.{RankedLeg}
use Rattle.ch_hierarchy.specs.Rows.{row}
use Rattle.ch_hierarchy.specs.Hierarchy.{LevelsAndLegs, nodes_of, IsLevelled}
use Rattle.ch_hierarchy.specs.Ranked.{rank_of}
use Rattle.ch_hierarchy.specs.declared.side.Side.{Side}
use Rattle.ch_hierarchy.specs.Side.{rows_of, other, state_of}
use Rattle.ch_hierarchy.proofs.code.Ranked.{rank_below, rank_one}
use Rattle.ch_query.specs.declared.question.Ends.{Ends}
use Rattle.ch_query.specs.declared.weights.search.WeightSearch.{WeightSearch}
use Rattle.ch_query.specs.declared.weights.marked.TheConstants.{TIED}
use Rattle.ch_query.specs.Marks.{Allows, mark_of, IsMarkedFrom, AreMarked, AreMarkedBut, KeepsMarks, ShowsMark}
use Rattle.ch_query.specs.Search.{IsSettled, IsRelaxedFrom, OrNode}
use Rattle.ch_query.specs.Weighed.{weighed, weighed_leg}
use Rattle.ch_query.specs.Weights.{known_cost, weight_cost, by_state, side_costs, side_keys, source_of, is_idle_on, IsSizedFor}
use Rattle.ch_query.specs.Weights.{IsWeighingAt, IsWeighingOn, IsSameSide, IsPartlyWeighed, ShowsWeight, IsLeastState, without_state}
use Rattle.ch_query.proofs.by_weight.Known.{light_cost, known_weight}
use Rattle.ch_query.proofs.by_weight.LegsRead.{IsReadLeg, read_state}
use Rattle.ch_query.proofs.by_weight.States.{by_state-at, by_state-set, by_state-some, state_one, state_apart, state_below}
use Rattle.ch_query.proofs.by_weight.WeighingPops.{pop_settled}

-- a marked change is a change of the search
pub marked_shows : (most : ℕ) (x y : WeightSearch) (old new : List ℕ) (state weight rank : ℕ) →
    ShowsMark most x old state weight rank y new → ShowsWeight most x state weight y
marked_shows limit x y old new state weight rank (inl (tie, known, queue, marks)) = inl (known, queue, λ low. omega arith)
marked_shows limit x y old new state weight rank (inr (inl (away, known, queue, most, marks))) = inl (known, queue, most)
marked_shows limit x y old new state weight rank (inr (inr (light, less, known, queue, marks))) = inr (light, less, known, queue)

-- a mark is written at the state of the node n on a side
module _ (H : LevelsAndLegs) (k : IsLevelled H) (side : Side) (marks : List ℕ) (count : length marks ≡ 2 * nodes_of H)
    (n state mark : ℕ) (within : n < nodes_of H) (at : state ≡ state_of side (rank_of H n)) where
  -- n has it
  mark_here : mark_of H side (set marks state mark) n ≡ mark
  mark_here =
      let low = state_below side (rank_of H n) (nodes_of H) (rank_below H k n within) in
      ap (λ q. get_or (set marks state mark) q 0) (sym at) ∙ get_or-set_same marks state mark 0 (omega arith)

  -- each other node keeps its mark
  mark_away : (q : ℕ) → q < nodes_of H → (q ≡ n → ⊥) → mark_of H side (set marks state mark) q ≡ mark_of H side marks q
  mark_away q lt ne = get_or-set_other marks state (state_of side (rank_of H q)) mark 0
      (λ e. ne (rank_one H k q n lt within (state_one side (rank_of H q) (rank_of H n) (e ∙ at))))

  -- so does each node on the other side
  mark_there : KeepsMarks (other side) marks (set marks state mark)
  mark_there = record {
    count = length-set marks state mark;
    same = λ rank. get_or-set_other marks state (state_of (other side) rank) mark 0
        (λ e. state_apart side rank (rank_of H n) (e ∙ at));
  }

-- the node v offers a weight to the end of its leg l
module _ (H : LevelsAndLegs) (k : IsLevelled H) (ends : Ends) (side : Side) (y z : WeightSearch) (marks marks' : List ℕ) (v weight : ℕ)
    (l : Leg)
    (sum state rank : ℕ) (sizes : IsSizedFor (nodes_of H) y) (count : length marks ≡ 2 * nodes_of H) (limit : ends.most ≤ MOST_WEIGHT)
    (within : l.node < nodes_of H) (at : state ≡ state_of side (rank_of H l.node)) (is : rank_of H v ≡ rank)
    (total : cost_sum (weight_cost weight) l.cost ≡ weight_cost sum) (shows : ShowsMark ends.most y marks state sum rank z marks') where
  -- the weight that is known of the end
  stands : cost_at (side_costs H side y) l.node ≡ known_cost (get_or y.known.items state 0)
  stands =
      let low = state_below side (rank_of H l.node) (nodes_of H) (rank_below H k l.node within) in
      let size = sizes.known in
      by_state-at known_cost H side y.known.items UNREACHED None l.node within
      ∙ ap (λ q. known_cost (get_or y.known.items q UNREACHED)) (sym at)
      ∙ ap known_cost (get_or_default y.known.items state UNREACHED 0 (omega arith))

  -- if no weight changes, no cost does
  costs_same : z.known.items ≡ y.known.items → side_costs H side z ≡ side_costs H side y
  costs_same e = ap (λ q. by_state known_cost H side q UNREACHED) e

  -- if the state gets the sum, the end costs it
  costs_less : z.known.items ≡ set y.known.items state sum → sum ≤ ends.most →
      side_costs H side z ≡ set (side_costs H side y) l.node (Some (weight_cost sum))
  costs_less e low =
      ap (λ q. by_state known_cost H side q UNREACHED) (e ∙ ap (λ q. set y.known.items q sum) at)
      ∙ by_state-set known_cost H side k y.known.items UNREACHED sum l.node sizes.known within
      ∙ ap (set (side_costs H side y) l.node) (light_cost sum (omega arith))

  -- the end costs the sum then
  cost_less : z.known.items ≡ set y.known.items state sum → sum ≤ ends.most → cost_at (side_costs H side z) l.node ≡ Some (weight_cost sum)
  cost_less e low =
      let low_end = state_below side (rank_of H l.node) (nodes_of H) (rank_below H k l.node within) in
      let size = sizes.known in
      by_state-at known_cost H side z.known.items UNREACHED None l.node within
      ∙ ap known_cost (ap (λ q. get_or q (state_of side (rank_of H l.node)) UNREACHED) e
      ∙ ap (λ q. get_or (set y.known.items state sum) q UNREACHED) (sym at)
      ∙ get_or-set_same y.known.items state sum UNREACHED (omega arith))
      ∙ light_cost sum (omega arith)

  -- the marks of the other side stay
  pub there_kept : KeepsMarks (other side) marks marks'
  there_kept = elim shows [
    | inl (tie, known, queue, e) ↦
        subst (KeepsMarks (other side) marks) (sym e) (mark_there H k side marks count l.node state TIED within at)
    | inr (inl (away, known, queue, most, e)) ↦
        subst (KeepsMarks (other side) marks) (sym e) (record { count = refl; same = λ r. refl })
    | inr (inr (light, less, known, queue, e)) ↦
        subst (KeepsMarks (other side) marks) (sym e) (mark_there H k side marks count l.node state rank within at)
  ]

  -- the end of the leg is marked
  pub mark_new : IsMarkedFrom H side z marks' v (weight_cost weight) l
  mark_new e = elim shows [
    | inl (tie, known, queue, m) ↦
        inl (ap (λ q. mark_of H side q l.node) m ∙ mark_here H k side marks count l.node state TIED within at)
    | inr (inl (away, known, queue, most, m)) ↦ absurd (away (
        let has = sym stands ∙ ap (λ q. cost_at q l.node) (sym (costs_same known)) ∙ e ∙ ap Some total in
        let same = known_weight (get_or y.known.items state 0) (weight_cost sum) has in omega arith))
    | inr (inr (light, less, known, queue, m)) ↦
        inr (ap (λ q. mark_of H side q l.node) m ∙ mark_here H k side marks count l.node state rank within at ∙ sym is)
  ]

  -- a leg to the same end that was taken before gives a greater weight
  dearer : (c : Cost) (j : Leg) → j.node ≡ l.node → sum ≤ ends.most → sum < get_or y.known.items state 0 →
      z.known.items ≡ set y.known.items state sum → IsRelaxedFrom ends.most (side_costs H side y) c j →
      cost_at (side_costs H side z) j.node ≡ Some (cost_sum c j.cost) → ⊥
  dearer c j same low less known relaxed e =
      let equal : weight_cost sum ≡ cost_sum c j.cost =
      same_Some _ _ (sym (cost_less known low) ∙ ap (cost_at (side_costs H side z)) (sym same) ∙ e) in
      let weighs : sum ≡ c.weight + j.cost.weight = ap (λ (q : Cost). q.weight) equal in
      let old = relaxed (omega arith) in
      let old_is : get_or y.known.items state 0 ≡ old.0.weight =
      known_weight (get_or y.known.items state 0) old.0 (sym stands ∙ ap (cost_at (side_costs H side y)) (sym same) ∙ old.1) in
      let le = old.2.0 in
      omega (arith, weighs, old_is, le, less)

  -- the leg j of u stays marked
  pub mark_kept : (u : ℕ) (c : Cost) (j : Leg) → IsRelaxedFrom ends.most (side_costs H side y) c j → IsMarkedFrom H side y marks u c j →
      IsMarkedFrom H side z marks' u c j
  mark_kept u c j relaxed marked e =
      let low = (by_state-some known_cost H side z.known.items UNREACHED j.node (cost_sum c j.cost) e).0 in
      elim shows [
        | inl (tie, known, queue, m) ↦
            let was = marked (ap (λ q. cost_at q j.node) (sym (costs_same known)) ∙ e) in
            elim (cases_eq j.node l.node) [
              | inl same ↦ inl (ap (λ q. mark_of H side q j.node) m ∙ ap (mark_of H side (set marks state TIED)) same
                  ∙ mark_here H k side marks count l.node state TIED within at)
              | inr ne ↦ subst (λ q. Allows q (rank_of H u))
                  (sym (ap (λ q. mark_of H side q j.node) m ∙ mark_away H k side marks count l.node state TIED within at j.node low ne)) was
            ]
        | inr (inl (away, known, queue, most, m)) ↦
            subst (λ q. Allows (mark_of H side q j.node) (rank_of H u)) (sym m)
            (marked (ap (λ q. cost_at q j.node) (sym (costs_same known)) ∙ e))
        | inr (inr (light, less, known, queue, m)) ↦ elim (cases_eq j.node l.node) [
          | inl same ↦ absurd (dearer c j same light less known relaxed e)
          | inr ne ↦
              let was = marked (sym (ap (λ q. cost_at q j.node) (costs_less known light)
              ∙ get_or-set_other (side_costs H side y) l.node j.node (Some (weight_cost sum)) None ne) ∙ e) in
              subst (λ q. Allows q (rank_of H u))
              (sym (ap (λ q. mark_of H side q j.node) m ∙ mark_away H k side marks count l.node state rank within at j.node low ne)) was
        ]
      ]

-- the marks of x after these legs of v were taken, and the search is y
pub record IsPartlyMarked (H : LevelsAndLegs) (ends : Ends) (side : Side) (x y : WeightSearch) (v weight : ℕ) (old new : List ℕ)
    (legs : List Leg) :
    Type 0 where
  pub others : (u : ℕ) (c : Cost) → IsSettled (side_costs H side x) (side_keys H side x) u c →
      OrNode (is_idle_on H side (source_of ends side)) v u c
      ⊎ ((l : Leg) → Contains (row (rows_of (weighed H) side) u) l → IsMarkedFrom H side y new u c l)
  pub taken : (l : Leg) → Contains legs l → IsMarkedFrom H side y new v (weight_cost weight) l
  pub there : KeepsMarks (other side) old new

-- before the first leg nothing has changed
pub partly_unmarked : (H : LevelsAndLegs) (ends : Ends) (side : Side) (x : WeightSearch) (v weight : ℕ) (marks : List ℕ) →
    AreMarkedBut H ends side x marks v → IsPartlyMarked H ends side x x v weight marks marks []
partly_unmarked H ends side x v weight marks marked = record {
  others = marked;
  taken = λ l has. absurd (let lt = has.1 in omega arith);
  there = record { count = refl; same = λ rank. refl };
}

-- keeping marks is transitive
keeps_then : (side : Side) (a b c : List ℕ) → KeepsMarks side a b → KeepsMarks side b c → KeepsMarks side a c
keeps_then side a b c first second =
    record { count = second.count ∙ first.count; same = λ rank. second.same rank ∙ first.same rank }

-- the leg at place i is taken
pub marked_more : (H : LevelsAndLegs) (ends : Ends) (side : Side) (x y z : WeightSearch) (v weight i : ℕ) (r : RankedLeg) (l : Leg)
    (state rank : ℕ)
    (old marks marks' : List ℕ) → rank_of H v ≡ rank → length old ≡ 2 * nodes_of H →
    IsPartlyWeighed H ends side x y v weight (take i (row (rows_of (weighed H) side) v)) →
    IsPartlyMarked H ends side x y v weight old marks (take i (row (rows_of (weighed H) side) v)) → IsReadLeg H side v i r l →
    state ≡ state_of side r.rank → ShowsMark ends.most y marks state (weight + r.weight) rank z marks' →
    IsPartlyMarked H ends side x z v weight old marks' (take (i + 1) (row (rows_of (weighed H) side) v))
marked_more H ends side x y z v weight i r l state rank old marks marks' at_rank many p q is at shows =
    let k = p.weighing.levelled in
    let legs = take i (row (rows_of (weighed H) side) v) in
    let there = read_state H k side side v i r l is state at in
    let kept_count = q.there.count in
    let heavy = is.weight in
    let count : length marks ≡ 2 * nodes_of H = omega arith in
    let limit = p.weighing.here.search.limits in
    let total : cost_sum (weight_cost weight) (weighed_leg l).cost ≡ weight_cost (weight + r.weight) =
    ap (λ w. weight_cost (weight + w)) (sym heavy) in
    let kept = mark_kept H k ends side y z marks marks' v weight (weighed_leg l) (weight + r.weight) state rank p.weighing.sizes count limit
    is.node there.0 at_rank total shows in
    record {
      others = λ u c settled. elim (q.others u c settled) [
        | inl idle ↦ inl idle
        | inr marked ↦ elim (p.weighing.here.search.frontier u c (p.stays u c settled)) [
          | inl idle ↦ inl idle
          | inr relaxed ↦ inr (λ j has. kept u c j (relaxed j has) (marked j has))
        ]
      ];
      taken = λ j has. elim (Contains-push_cases legs (weighed_leg l) j (subst (λ ks. Contains ks j) is.more has)) [
        | inl before ↦ kept v (weight_cost weight) j (p.relaxed j before) (q.taken j before)
        | inr last ↦ subst (IsMarkedFrom H side z marks' v (weight_cost weight)) last
            (mark_new H k ends side y z marks marks' v weight (weighed_leg l) (weight + r.weight) state rank p.weighing.sizes count limit
            is.node there.0 at_rank total shows)
      ];
      there = keeps_then (other side) old marks marks' q.there
          (there_kept H k ends side y z marks marks' v weight (weighed_leg l) (weight + r.weight) state rank p.weighing.sizes count limit
          is.node there.0 at_rank total shows);
    }

-- all legs are taken
pub marked_whole : (H : LevelsAndLegs) (ends : Ends) (side : Side) (x y : WeightSearch) (v weight : ℕ) (old marks : List ℕ)
    (legs : List Leg) →
    IsPartlyWeighed H ends side x y v weight legs → IsPartlyMarked H ends side x y v weight old marks legs →
    legs ≡ row (rows_of (weighed H) side) v → AreMarked H ends side y marks
marked_whole H ends side x y v weight old marks legs p q e u c settled = elim (q.others u c (p.settled u c settled)) [
  | inl (inl idle) ↦ inl idle
  | inl (inr here) ↦ inr (λ l has.
      let cost : weight_cost weight ≡ c =
      same_Some _ _ (sym p.weighing.here.here.0 ∙ ap (cost_at (side_costs H side y)) (sym here) ∙ settled.0) in
      subst (λ n. IsMarkedFrom H side y marks n c l) (sym here)
      (subst (λ d. IsMarkedFrom H side y marks v d l) cost
      (q.taken l (subst (λ ks. Contains ks l) (sym (e ∙ ap (row (rows_of (weighed H) side)) (sym here))) has))))
  | inr marked ↦ inr marked
]

-- the node v may stay idle
pub marked_idle : (H : LevelsAndLegs) (ends : Ends) (side : Side) (x : WeightSearch) (v weight : ℕ) (marks : List ℕ) →
    IsWeighingAt H ends side x v weight → AreMarkedBut H ends side x marks v →
    is_idle_on H side (source_of ends side) v (weight_cost weight) → AreMarked H ends side x marks
marked_idle H ends side x v weight marks w marked idle u c settled = elim (marked u c settled) [
  | inl (inl other_idle) ↦ inl other_idle
  | inl (inr here) ↦ inl (
      let cost : weight_cost weight ≡ c =
      same_Some _ _ (sym w.here.here.0 ∙ ap (cost_at (side_costs H side x)) (sym here) ∙ settled.0) in
      subst (λ n. is_idle_on H side (source_of ends side) n c) (sym here)
      (subst (is_idle_on H side (source_of ends side) v) cost idle))
  | inr legs ↦ inr legs
]

-- the node v leaves the queue
pub marked_popped : (H : LevelsAndLegs) (ends : Ends) (side : Side) (x : WeightSearch) (m : IsWeighingOn H ends side x)
    (v weight state : ℕ) →
    v < nodes_of H → state ≡ state_of side (rank_of H v) → IsLeastState x.queue (weight, state) → (marks : List ℕ) →
    AreMarked H ends side x marks → AreMarkedBut H ends side (without_state x state) marks v
marked_popped H ends side x m v weight state within is l marks marked u c settled =
    elim (pop_settled H ends side x m v weight state within is l u c settled) [
      | inl was ↦ elim (marked u c was) [
        | inl idle ↦ inl (inl idle)
        | inr legs ↦ inr legs
      ]
      | inr new ↦ inl (inr new.0)
    ]

-- a side without changes stays marked
pub marked_stays : (H : LevelsAndLegs) (ends : Ends) (side : Side) (x z : WeightSearch) (old new : List ℕ) → IsSameSide H side x z →
    KeepsMarks side old new → AreMarked H ends side x old → AreMarked H ends side z new
marked_stays H ends side x z old new same kept marked u c settled =
    elim (marked u c (sym (ap (λ q. cost_at q u) same.costs) ∙ settled.0, sym (ap (λ q. cost_at q u) same.keys) ∙ settled.1)) [
      | inl idle ↦ inl idle
      | inr legs ↦ inr (λ l has e. subst (λ q. Allows q (rank_of H u)) (sym (kept.same (rank_of H l.node)))
          (legs l has (sym (ap (λ q. cost_at q l.node) same.costs) ∙ e)))
    ]
