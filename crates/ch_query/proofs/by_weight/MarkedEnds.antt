-- At the end of a search with marks, the marks lead back from each node where two least paths meet.
use Rattle.std.proofs.Common.{◌≡◌, ℕ, ◌+◌, ◌≤◌, List, [], Contains, None, refl, sym, ◌∙◌, ap, subst, arith}
use Rattle.std.proofs.Common.{inl, inr}
use Rattle.std.specs.Option.{option_map}
use Rattle.std.proofs.lemmas.Bool.{cases_eq}
use Rattle.ch_graph.specs.declared.cost.TheConstants.{UNREACHED}
use Rattle.ch_graph.specs.declared.cost.Cost.{Cost}
use Rattle.ch_graph.specs.Cost.{cost_sum}
use Rattle.ch_graph.proofs.Lists.{contains_map}
use Rattle.ch_hierarchy.specs.Rows.{row}
use Rattle.ch_hierarchy.specs.Hierarchy.{LevelsAndLegs}
use Rattle.ch_hierarchy.specs.Ranked.{rank_of}
use Rattle.ch_hierarchy.specs.Paths.{IsMeeting}
use Rattle.ch_hierarchy.specs.KeptLaws.{IsLeastMeeting}
use Rattle.ch_hierarchy.specs.declared.side.Side.{Side}
use Rattle.ch_hierarchy.specs.declared.side.Side.TheVariants.{Up, Down}
use Rattle.ch_hierarchy.specs.Side.{rows_of, state_of}
use Rattle.ch_query.specs.declared.question.Ends.{Ends}
use Rattle.ch_query.specs.declared.weights.search.WeightSearch.{WeightSearch}
use Rattle.ch_query.specs.declared.weights.marked.LeastSum.{LeastSum}
use Rattle.ch_query.specs.Distance.{IsKeptForSome}
use Rattle.ch_query.specs.Marks.{Allows, LeadBack, IsLeastMarked, IsMarkedWay}
use Rattle.ch_query.specs.Search.{IsSettled}
use Rattle.ch_query.specs.SearchSpace.{IsTight}
use Rattle.ch_query.specs.Weighed.{weighed_leg}
use Rattle.ch_query.specs.Weights.{known_cost, weight_cost, side_costs, side_keys, source_of, AreKeysFrom}
use Rattle.ch_query.proofs.by_weight.Known.{known_weight, known_whole}
use Rattle.ch_query.proofs.by_weight.States.{by_state-some, key_weight}
use Rattle.ch_query.proofs.by_weight.WeighingEnds.{all_paths, least_known, none_known}
use Rattle.ch_query.proofs.one_side.End.{least_reached, reached_no_less}
use Rattle.ch_query.proofs.one_side.TightNodes.{tight_least, tight_up, tight_down}
use Rattle.ch_query.proofs.one_side.WeighedPaths.{reached_weight, weighed_avoids, weighed_row}
use Rattle.ch_query.proofs.two_sides.WeighedSearches.{IsPastAll, tight_settled}

module _ (H : LevelsAndLegs) (k : IsKeptForSome H) (ends : Ends) (x : WeightSearch) (marks : List ℕ) (least : LeastSum)
    (m : IsLeastMarked H ends x marks least) (past : AreKeysFrom x.queue (least.weight + 1)) where
  -- each remaining key is at least the least sum
  past_sum : AreKeysFrom x.queue least.weight
  past_sum state weight key = let low = past state weight key in omega arith

  -- each remaining key is above each weight up to the least sum
  above : (side : Side) (w : ℕ) → w ≤ least.weight → IsPastAll (side_keys H side x) w
  above side w le v d e =
      let there = by_state-some (option_map weight_cost) H side x.queue None v d e in
      let key = key_weight _ d there.1 in
      let low = past (state_of side (rank_of H v)) key.0 key.1 in
      let is = ap (λ (q : Cost). q.weight) key.2 in
      omega arith

  -- a tight node up to the least sum is settled at its least weight
  settled_tight : (side : Side) (v : ℕ) (e : Cost) → IsTight H side (source_of ends side) v e → e.weight ≤ least.weight →
      IsSettled (side_costs H side x) (side_keys H side x) v (weight_cost e.weight)
  settled_tight side v e tight le =
      let search = all_paths H k ends x least.weight m.sum past_sum side in
      let shortest = tight_least H side (source_of ends side) v e tight in
      let is = tight_settled H k side (source_of ends side) v e (side_costs H side x) (side_keys H side x) search tight shortest.weight
      (above side e.weight le) in
      let there = by_state-some known_cost H side x.known.items UNREACHED v is.0 is.1.0 in
      let reached = reached_weight H side (source_of ends side) v is.0 (search.sound v is.0 is.1.0) in
      let low = (reached_no_less (rows_of H side) (source_of ends side) v e reached.0 shortest reached.1).0 in
      let weighs = reached.2 in
      let high = is.2 in
      let known = known_weight _ is.0 there.1 in
      let same : is.0.weight ≡ e.weight = omega (arith, low, weighs, high) in
      subst (IsSettled (side_costs H side x) (side_keys H side x) v)
      (sym (known_whole _ is.0 there.1) ∙ ap weight_cost (known ∙ same)) is.1

  -- the marks lead back on each side
  leads_back : (side : Side) → LeadBack H side (source_of ends side) least.weight marks
  leads_back side u c l tight has end low =
      let s = source_of ends side in
      let at = settled_tight side u c tight (omega arith) in
      elim (m.marked side u (weight_cost c.weight) at) [
        | inl idle ↦ absurd (weighed_avoids H k side s u c tight u (weight_cost c.weight) [] idle refl (omega arith, λ same. omega arith))
        | inr marked ↦
            marked (weighed_leg l)
            (subst (λ legs. Contains legs (weighed_leg l)) (sym (weighed_row H side u))
            (contains_map weighed_leg (row (rows_of H side) u) l has))
            (settled_tight side l.node (cost_sum c l.cost) end low).0
      ]

  -- the rank allows each node where two paths of the least cost meet
  allows_meet : (n : ℕ) (c : Cost) → IsLeastMeeting H ends.start ends.end c → c.weight ≡ least.weight →
      IsMeeting H ends.start ends.end n c →
      Allows least.rank (rank_of H n)
  allows_meet n c h weighs (a, b, rise, fall, sum) =
      let from = least_reached H.up ends.start n a rise in
      let to = least_reached H.down ends.end n b fall in
      let total : a.weight + b.weight ≡ c.weight = ap (λ (q : Cost). q.weight) sum in
      let up = settled_tight Up n a (tight_up H k ends.start ends.end n a b c h from to sum) (omega arith) in
      let down = settled_tight Down n b (tight_down H k ends.start ends.end n a b c h from to sum) (omega arith) in
      m.meets n (weight_cost a.weight) (weight_cost b.weight) up down (total ∙ weighs)

  -- the least sum is the weight of each least meeting, if it is the sum of two paths
  same_weight : (c : Cost) → IsLeastMeeting H ends.start ends.end c → c.weight ≡ least.weight
  same_weight c h = elim (cases_eq least.weight UNREACHED) [
    | inl none ↦ absurd (none_known H k ends x least.weight m.sum past_sum none h.meets.0 c h.meets.1)
    | inr some ↦
        let small = m.sum.small in
        let known = least_known H k ends x least.weight m.sum past_sum (omega arith) in
        let first = h.least known.1.meets.0 known.0 known.1.meets.1 in
        let second = known.1.least h.meets.0 c h.meets.1 in
        let weighs = known.2 in
        let le = first.0 in
        let ge = second.0 in
        omega arith
  ]

  -- the search has found the least weight and the ways back
  pub marked_way : IsMarkedWay H ends.start ends.end marks least
  marked_way = record {
    count = m.count;
    none = none_known H k ends x least.weight m.sum past_sum;
    some = λ known. least_known H k ends x least.weight m.sum past_sum (let small = m.sum.small in omega arith);
    meets = λ n c h there. allows_meet n c h (same_weight c h) there;
    back = (leads_back Up, leads_back Down);
  }
