-- A search by weights on one side, from its first state to its end. The states where it did not stall are a search
-- space.
use Rattle.std.proofs.Common.{◌≡◌, ℕ, ◌/◌, ◌%◌, ◌<◌, List, [], ◌∷◌, ◌++◌, Contains, Option, None, get_or, refl, sym, ◌∙◌, ap, subst}
use Rattle.std.proofs.Common.{arith, set, inl, inr, nat_cmp}
use Rattle.std.specs.Prelude.{◌⊎◌, ◌≢◌, IfOk, OnOk, Vec}
use Rattle.std.specs.declared.alloc.Global.{Global}
use Rattle.std.specs.declared.result.Result.{Result}
use Rattle.std.specs.declared.result.Result.TheVariants.{Ok, Err}
use Rattle.std.specs.Option.{option_map}
use Rattle.std.proofs.lemmas.Bool.{cases_eq}
use Rattle.std.proofs.lemmas.Option.{none-some}
use Rattle.std.proofs.lemmas.List.Elements.{Contains-append_left, Contains-push, Contains-push_cases, Contains-get_or}
use Rattle.std.proofs.lemmas.List.Quantifiers.{all_pairs_push}
use Rattle.ch_graph.specs.declared.cost.Cost.{Cost}
use Rattle.ch_graph.specs.Cost.{IsAtMost, cost_at}
use Rattle.ch_graph.proofs.CostOrder.{IsAtMost_refl}
use Rattle.ch_graph.proofs.CostSums.{cost_sum-no_cost}
use Rattle.ch_hierarchy.specs.Hierarchy.{LevelsAndLegs, nodes_of}
use Rattle.ch_hierarchy.specs.Ranked.{rank_of}
use Rattle.ch_hierarchy.specs.declared.side.Side.{Side}
use Rattle.ch_hierarchy.specs.declared.side.Side.TheVariants.{Up, Down}
use Rattle.ch_hierarchy.specs.Side.{rows_of, other, state_of}
use Rattle.ch_hierarchy.proofs.code.Ranked.{rank_one, node_of_rank}
use Rattle.ch_queue.specs.Queue.{HasNone, IsLeastEntry}
use Rattle.ch_graph.specs.declared.cost.TheConstants.{UNREACHED}
use Rattle.ch_query.specs.declared.question.Ends.{Ends}
use Rattle.ch_query.specs.declared.weights.search.WeightSearch.{WeightSearch}
use Rattle.ch_query.specs.Distance.{IsKeptForSome}
use Rattle.ch_query.specs.Limits.{IsWithin, IsMost}
use Rattle.ch_query.specs.Search.{IsSettled, IsEmpty}
use Rattle.ch_query.specs.SearchSpace.{IsPathWeight, IsTight, IsRankedSpace}
use Rattle.ch_query.specs.Weighed.{weighed_cost}
use Rattle.ch_query.specs.Weights.{known_cost, weight_cost, by_state, side_costs, side_keys, source_of, is_idle_on}
use Rattle.ch_query.specs.Weights.{IsWeighingOn, HasGoneOn, IsLeastState, AreUnstalledOn, count_unsettled_on, without_state}
use Rattle.ch_query.proofs.one_side.End.{reached_no_less}
use Rattle.ch_query.proofs.one_side.Popping.{key_within}
use Rattle.ch_query.proofs.one_side.Steps.{popped_stays, popped_here}
use Rattle.ch_query.proofs.one_side.TightNodes.{tight_least}
use Rattle.ch_query.proofs.one_side.WeighedPaths.{reached_weight, weighed_avoids}
use Rattle.ch_query.proofs.two_sides.WeighedSearches.{tight_settled}
use Rattle.ch_query.proofs.by_weight.Known.{known_whole}
use Rattle.ch_query.proofs.by_weight.Queues.{least_state}
use Rattle.ch_query.proofs.by_weight.States.{by_state-at, by_state-some, key_weight}
use Rattle.ch_query.proofs.by_weight.WeighingPops.{key_state, least_on_side, keys_here, pop_there, pop_settled, pop_falls}

-- a state is of one of the sides
side_or_other : (side : Side) (state : ℕ) → (state ≡ state_of side (state / 2)) ⊎ (state ≡ state_of (other side) (state / 2))
side_or_other Up state = elim (cases_eq (state % 2) 0) [ inl even ↦ inl (omega arith) | inr odd ↦ inr (omega arith) ]
side_or_other Down state = elim (cases_eq (state % 2) 0) [ inl even ↦ inr (omega arith) | inr odd ↦ inl (omega arith) ]

-- if the other side has no keys, a state with a key is of this side
pub state_here : (H : LevelsAndLegs) (side : Side) (x : WeightSearch) → IsEmpty (side_keys H (other side) x) →
    (v weight state : ℕ) → v < nodes_of H → rank_of H v ≡ state / 2 →
    IsLeastState x.queue (weight, state) → state ≡ state_of side (rank_of H v)
state_here H side x alone v weight state within at l = elim (side_or_other side state) [
  | inl here ↦ here ∙ ap (state_of side) (sym at)
  | inr there ↦
      let is = there ∙ ap (state_of (other side)) (sym at) in
      absurd (alone v (weight_cost weight)
      (by_state-at (option_map weight_cost) H (other side) x.queue None None v within
      ∙ ap (option_map weight_cost) (ap (λ q. get_or x.queue q None) (sym is) ∙ l.has)))
]

-- the state of least weight is that of a node
node_popped : (H : LevelsAndLegs) (ends : Ends) (side : Side) (x : WeightSearch) → IsWeighingOn H ends side x → (weight state : ℕ) →
    IsLeastState x.queue (weight, state) →
    (v : ℕ) × (v < nodes_of H) × (rank_of H v ≡ state / 2)
node_popped H ends side x m weight state l =
    let low = key_state x.queue state weight l.has in
    let size = m.sizes.queue in
    node_of_rank H m.levelled (state / 2) (omega arith)

-- if no state has a key, no node has a key
pub none_left : (H : LevelsAndLegs) (side : Side) (queue : List (Option ℕ)) → HasNone queue →
    IsEmpty (by_state (option_map weight_cost) H side queue None)
none_left H side queue none v c e =
    let key = key_weight _ c (by_state-some (option_map weight_cost) H side queue None v c e).1 in
    none-some key.0 (sym (none (state_of side (rank_of H v))) ∙ key.1)

-- x settles the node v, whose state has the least weight, and becomes z
pub record SettlesState (H : LevelsAndLegs) (ends : Ends) (side : Side) (x z : WeightSearch) (v weight state : ℕ) : Type 0 where
  pub within : v < nodes_of H
  pub is : state ≡ state_of side (rank_of H v)
  pub least : IsLeastState x.queue (weight, state)
  pub gone : HasGoneOn H ends side (without_state x state) z

-- the program settles the state that it took out
pub settles_popped : (H : LevelsAndLegs) (ends : Ends) (side : Side) (x z : WeightSearch) (weight state : ℕ) (queue : List (Option ℕ)) →
    IsWeighingOn H ends side x → IsEmpty (side_keys H (other side) x) →
    IsLeastEntry nat_cmp x.queue (weight, state) → queue ≡ set x.queue state None → HasGoneOn H ends side (record x { queue = queue }) z →
    (v : ℕ) × SettlesState H ends side x z v weight state × (rank_of H v ≡ state / 2)
settles_popped H ends side x z weight state queue m alone entry rest gone =
    let l = least_state x.queue (weight, state) entry in
    let n = node_popped H ends side x m weight state l in (
      n.0,
      record {
        within = n.1;
        is = state_here H side x alone n.0 weight state n.1 n.2 l;
        least = l;
        gone = subst (λ (y : WeightSearch). HasGoneOn H ends side y z) (ap (λ (q : List (Option ℕ)). record x { queue = q }) rest) gone;
      },
      n.2,
    )

module _ (H : LevelsAndLegs) (ends : Ends) (side : Side) (x z : WeightSearch) (m : IsWeighingOn H ends side x) (v weight state : ℕ)
    (s : SettlesState H ends side x z v weight state) where
  -- the other side still has no keys
  pub still_alone : IsEmpty (side_keys H (other side) x) → IsEmpty (side_keys H (other side) z)
  still_alone = subst IsEmpty (sym (s.gone.there.keys ∙ (pop_there H ends side x m v weight state s.within s.is s.least).keys))

  -- one state fewer is unsettled
  pub unsettled_falls : count_unsettled_on H side z < count_unsettled_on H side x
  unsettled_falls = let falls = pop_falls H ends side x m v weight state s.within s.is s.least in let same = s.gone.measure in omega arith

  module _ (list : List (ℕ × ℕ)) (a : AreUnstalledOn H ends side x list) where
    -- a node that was settled is settled now
    remains : (u : ℕ) (d : Cost) → IsSettled (side_costs H side x) (side_keys H side x) u d →
        IsSettled (side_costs H side z) (side_keys H side z) u d
    remains u d h =
        let key = least_on_side H ends side x m v weight state s.within s.is s.least in
        s.gone.stays u d (subst (λ r. IsSettled (side_costs H side x) r u d)
        (sym (keys_here H ends side x m v weight state s.within s.is s.least))
        (popped_stays _ _ _ _ _ m.search v (weight_cost weight) key.has key.least
        (key_within (side_keys H side x) v (weight_cost weight) key.has) u d h))

    -- v is settled now
    here : IsSettled (side_costs H side z) (side_keys H side z) v (weight_cost weight)
    here =
        let key = least_on_side H ends side x m v weight state s.within s.is s.least in
        s.gone.stays v (weight_cost weight) (subst (λ r. IsSettled (side_costs H side x) r v (weight_cost weight))
        (sym (keys_here H ends side x m v weight state s.within s.is s.least))
        (popped_here _ _ _ _ _ m.search v (weight_cost weight) key.has key.least
        (key_within (side_keys H side x) v (weight_cost weight) key.has)))

    -- no other node is settled now
    was : (u : ℕ) (d : Cost) → IsSettled (side_costs H side z) (side_keys H side z) u d →
        IsSettled (side_costs H side x) (side_keys H side x) u d ⊎ ((u ≡ v) × (d ≡ weight_cost weight))
    was u d h = pop_settled H ends side x m v weight state s.within s.is s.least u d (s.gone.settled u d h)

    -- if the search stalls at v, the list stays the same
    pub unstalled_skips : is_idle_on H side (source_of ends side) v (weight_cost weight) → AreUnstalledOn H ends side z list
    unstalled_skips idle = record {
      distinct = a.distinct;
      settled = λ rank y h. let e = a.settled rank y h in (e.0, e.1, e.2, remains e.0 (weight_cost y) e.3);
      whole = λ u d h. elim (was u d h) [
        | inl old ↦ elim (a.whole u d old) [ inl i ↦ inl i | inr has ↦ inr has ]
        | inr new ↦ inl (subst (λ r. is_idle_on H side (source_of ends side) r d) (sym new.0)
            (subst (is_idle_on H side (source_of ends side) v) (sym new.1) idle))
      ];
    }

    -- otherwise v is in the list too
    pub unstalled_grows : (rank : ℕ) → rank_of H v ≡ rank → (list' : List (ℕ × ℕ)) → list' ≡ list ++ (rank, weight) ∷ [] →
        AreUnstalledOn H ends side z list'
    unstalled_grows rank at list' grown = subst (AreUnstalledOn H ends side z) (sym grown) (record {
      distinct = all_pairs_push (λ (p q : ℕ × ℕ). p.0 ≢ q.0) list (rank, weight) a.distinct (λ k d lt same.
          let e = a.settled (get_or list k d).0 (get_or list k d).1 (Contains-get_or list k d lt) in
          let one = rank_one H m.levelled e.0 v e.1 s.within (e.2 ∙ same ∙ sym at) in
          none-some _ (sym e.3.1 ∙ ap (cost_at (side_keys H side x)) one
          ∙ (least_on_side H ends side x m v weight state s.within s.is s.least).has));
      settled = λ r y h. elim (Contains-push_cases list (rank, weight) (r, y) h) [
        | inl old ↦ (let e = a.settled r y old in (e.0, e.1, e.2, remains e.0 (weight_cost y) e.3))
        | inr new ↦ (
          v,
          s.within,
          at ∙ ap (λ (q : ℕ × ℕ). q.0) new,
          subst (λ q. IsSettled (side_costs H side z) (side_keys H side z) v (weight_cost q)) (ap (λ (q : ℕ × ℕ). q.1) new) here,
        )
      ];
      whole = λ u d h. elim (was u d h) [
        | inl old ↦ elim (a.whole u d old) [
          | inl i ↦ inl i
          | inr has ↦
              inr (Contains-append_left list ((rank, weight) ∷ []) (rank_of H u, d.weight) has)
        ]
        | inr new ↦
            let ranks = sym at ∙ ap (rank_of H) (sym new.0) in
            let weights = ap (λ (q : Cost). q.weight) (sym new.1) in
            let entry : (rank, weight) ≡ (rank_of H u, d.weight) = (λ i. (ranks i, weights i)) in
            inr (subst (Contains (list ++ (rank, weight) ∷ [])) entry (Contains-push list (rank, weight)))
      ];
    })

-- a search that has ended, for the paths within the limit
module _ (H : LevelsAndLegs) (k : IsKeptForSome H) (ends : Ends) (side : Side) (x : WeightSearch) (m : IsWeighingOn H ends side x)
    (done : IsEmpty (side_keys H side x)) (limit : Option ℕ)
    (most : IsMost limit ends.most) where
  -- a settled node has the weight of a path within the limit
  settled_path : (v y : ℕ) → IsSettled (side_costs H side x) (side_keys H side x) v (weight_cost y) →
      IsPathWeight (rows_of H side) (source_of ends side) v y × IsWithin limit y
  settled_path v y h =
      let there = reached_weight H side (source_of ends side) v (weight_cost y) (m.search.sound v (weight_cost y) h.0) in
      (there, most.sound y (m.search.light v (weight_cost y) h.0))

  -- a tight node within the limit is settled at its least weight, and the search did not stall there
  tight_at : (v : ℕ) (c : Cost) → IsTight H side (source_of ends side) v c → IsWithin limit c.weight →
      (v < nodes_of H) × IsSettled (side_costs H side x) (side_keys H side x) v (weighed_cost c)
      × (is_idle_on H side (source_of ends side) v (weighed_cost c) → ⊥)
  tight_at v c tight low =
      let least = tight_least H side (source_of ends side) v c tight in
      let light = most.whole c.weight least.weight low in
      let settled = tight_settled H k side (source_of ends side) v c _ _ m.search tight light (λ u d key. absurd (done u d key)) in
      let at = by_state-some known_cost H side x.known.items UNREACHED v settled.0 settled.1.0 in
      let whole = known_whole _ settled.0 at.1 in
      let there = reached_weight H side (source_of ends side) v settled.0 (m.search.sound v settled.0 settled.1.0) in
      let no_less = (reached_no_less (rows_of H side) (source_of ends side) v c there.0 least there.1).0 in
      let no_more = settled.2 in
      let weight = there.2 in
      let is : settled.0.weight ≡ c.weight = omega arith in
      let cost : settled.0 ≡ weighed_cost c = sym whole ∙ ap weight_cost (ap (λ (q : Cost). q.weight) whole ∙ is) in (
        at.0,
        subst (IsSettled (side_costs H side x) (side_keys H side x) v) cost settled.1,
        λ idle. weighed_avoids H k side (source_of ends side) v c tight v (weighed_cost c) [] idle refl
            (subst (λ q. IsAtMost q (weighed_cost c)) (sym (cost_sum-no_cost (weighed_cost c))) (IsAtMost_refl (weighed_cost c))),
      )

  -- the states where it did not stall are the search space
  pub space_is : (list : List (ℕ × ℕ)) → AreUnstalledOn H ends side x list → IsRankedSpace H side limit (source_of ends side) list
  space_is list a = record {
    distinct = a.distinct;
    sound = λ rank y h. let s = a.settled rank y h in let p = settled_path s.0 y s.3 in (s.0, s.1, s.2, p.0, p.1);
    whole = λ v c tight low. let t = tight_at v c tight low in (
      t.0,
      elim (a.whole v (weighed_cost c) t.1) [ inl idle ↦ absurd (t.2 idle) | inr has ↦ has ],
    );
  }

-- if a search on one side ended well, it found the search space of the node where it began
pub space_if_done : (H : LevelsAndLegs) → IsKeptForSome H → (ends : Ends) (side : Side) (x : WeightSearch) → IsWeighingOn H ends side x →
    (limit : Option ℕ) → IsMost limit ends.most →
    (list : List (ℕ × ℕ)) {T E : Type 0} (r : Result T E) → OnOk r (IsEmpty (side_keys H side x)) →
    OnOk r (AreUnstalledOn H ends side x list) → OnOk r (IsRankedSpace H side limit (source_of ends side) list)
space_if_done H k ends side x m limit most list (Ok _) done a = space_is H k ends side x m done limit most list a
space_if_done H k ends side x m limit most list (Err _) done a = tt

-- a list with these entries is the search space
pub space_if_listed : (H : LevelsAndLegs) (side : Side) (limit : Option ℕ) (s : ℕ) (found : List (ℕ × ℕ)) →
    IsRankedSpace H side limit s found →
    {E : Type 0} (r : Result (Vec (ℕ × ℕ) Global) E) → IfOk r (λ list. list.items ≡ found) →
    IfOk r (λ list. IsRankedSpace H side limit s list.items)
space_if_listed H side limit s found space (Ok list) same = subst (IsRankedSpace H side limit s) (sym same) space
space_if_listed H side limit s found space (Err e) same = tt

-- a search from one node alone begins there on each side
pub one_source : (s most : ℕ) (side : Side) → source_of (record { start = s; end = s; most = most }) side ≡ s
one_source s most Up = refl
one_source s most Down = refl
