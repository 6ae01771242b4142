-- Meetings of search trees with sums: the first of all is where the route meets, and the sums of both ways are that along it.
use Rattle.std.proofs.Common.{◌≡◌, ◌≢◌, ℕ, ◌+◌, ◌<◌, List, [], ◌++◌, length, map, get_or}
use Rattle.std.proofs.Common.{set, replicate, All, Contains, Option, Some, None}
use Rattle.std.proofs.Common.{inl, inr, refl, sym, ◌∙◌, ap, subst, arith}
use Rattle.std.proofs.lemmas.Bool.{cases_eq, cases_lt}
use Rattle.std.proofs.lemmas.Option.{none-some, same_Some}
use Rattle.std.proofs.lemmas.List.{get_or-replicate, get_or-set_other, get_or-set_same, length-replicate}
use Rattle.std.proofs.lemmas.List.Elements.{Contains-append_cases, Contains-append_left}
use Rattle.std.proofs.lemmas.List.Elements.{Contains-append_right, Contains-get_or}
use Rattle.ch_graph.specs.declared.cost.Cost.{Cost}
use Rattle.ch_graph.specs.Cost.{IsAtMost, cost_sum}
use Rattle.ch_graph.specs.Rows.{AreRowsOf}
use Rattle.ch_graph.specs.Walk.{IsLeast}
use Rattle.ch_graph.specs.WalkLaws.{IsWalkCost}
use Rattle.ch_graph.proofs.CostOrder.{IsAtMost_antisymm}
use Rattle.ch_graph.proofs.Lists.{contains_map, contains_map_of, contains_none}
use Rattle.ch_graph.proofs.WalkCosts.{IsLeast-IsAtMost}
use Rattle.ch_hierarchy.specs.Hierarchy.{LevelsAndLegs, nodes_of}
use Rattle.ch_hierarchy.specs.KeptLaws.{IsLeastMeeting, MeetingsAreDistances}
use Rattle.ch_hierarchy.specs.Paths.{IsMeet, IsMeeting, NeverMeets}
use Rattle.ch_hierarchy.specs.declared.side.Side.{Side}
use Rattle.ch_hierarchy.specs.declared.side.Side.TheVariants.{Up, Down}
use Rattle.ch_hierarchy.proofs.theory.KeptWalks.{kept_has_walks, meetings_are_distances}
use Rattle.ch_query.specs.Distance.{IsKeptForSome}
use Rattle.ch_query.specs.SearchSpace.{IsTight}
use Rattle.ch_query.specs.TwoSided.{MeetsFirst}
use Rattle.ch_query.proofs.one_side.End.{least_reached}
use Rattle.ch_query.proofs.one_side.TightNodes.{sum_walk, tight_down, tight_up}
use Rattle.ch_query.proofs.two_sides.MeetingSteps.{first_trans}
use Rattle.ch_engine.specs.declared.sum_meets.Meeting.{Meeting}
use Rattle.ch_engine.specs.declared.sum_meets.Stop.{Stop}
use Rattle.ch_engine.specs.declared.sum_trees.Branch.{Branch}
use Rattle.ch_engine.specs.LegSums.{IsRouteSum, unknown}
use Rattle.ch_engine.specs.Slots.{IsSlotOf, named}
use Rattle.ch_engine.specs.Lines.{Lines}
use Rattle.ch_engine.specs.TableSums.{AreBranches, AreCells, AreOffers, AreStopPairs, AreStops, CoverBranches}
use Rattle.ch_engine.specs.TableSums.{CoverSlots, CoverStops, Covers, IsBranch, IsCell, IsFirstMet, IsOffer, KeepsCovers}
use Rattle.ch_engine.specs.TableSums.{IsSmall, IsStopWithin, met_at, stop_pair}
use Rattle.ch_engine.proofs.MeetingTrees.{route_over}
use Rattle.ch_engine.proofs.SparseSets.{at_slot, slot_at}

-- what is known covers what it comes first of
pub covers_by : (known : Option Meeting) (e : Meeting) (v : ℕ) (cost : Cost) → known ≡ Some e → MeetsFirst (e.cost, e.node) (cost, v) →
    Covers known v cost
covers_by known e v cost is first = subst (λ (o : Option Meeting). Covers o v cost) (sym is) first

-- the first of two meetings covers the new one
first_new : (old result : Option Meeting) (new : Meeting) → IsFirstMet old new result → Covers result new.node new.cost
first_new old result new first =
    let e = first.covers_new in covers_by result e.0 new.node new.cost e.1 e.2

-- and what the old one covered
pub first_old : (old result : Option Meeting) (new : Meeting) → IsFirstMet old new result → (v : ℕ) (cost : Cost) → Covers old v cost →
    Covers result v cost
first_old None result new first v cost covers = absurd covers
first_old (Some d) result new first v cost covers =
    let e = first.covers_old d refl in
    covers_by result e.0 v cost e.1 (first_trans (e.0.cost, e.0.node) (d.cost, d.node) (cost, v) e.2 covers)

-- one more stop of a branch
module _ (H : LevelsAndLegs) (lines : Lines) (values targets : List ℕ) (s : ℕ) where
  -- the meeting of a branch and a stop is one of the source and the target
  pub offer_of : (branch : Branch) (stop : Stop) (met : Meeting) → IsBranch Up H lines values s branch.node branch.cost branch.sum →
      IsBranch Down H lines values (get_or targets stop.place 0) branch.node stop.cost stop.sum → met.node ≡ branch.node →
      met.cost ≡ cost_sum branch.cost stop.cost →
      (met.sum ≢ unknown → (branch.sum ≢ unknown) × (stop.sum ≢ unknown) × (met.sum ≡ branch.sum + stop.sum)) →
      IsOffer H lines values s (get_or targets stop.place 0) met
  offer_of branch stop met up down node cost sum = record {
    up = branch.cost;
    down = stop.cost;
    first = branch.sum;
    second = stop.sum;
    rise = subst (λ (v : ℕ). IsBranch Up H lines values s v branch.cost branch.sum) (sym node) up;
    fall = subst (λ (v : ℕ). IsBranch Down H lines values (get_or targets stop.place 0) v stop.cost stop.sum) (sym node) down;
    cost = cost;
    sum = sum;
  }

  -- a row with one more meeting has meetings of the source and the targets
  pub offers_more : (row new : List (Option Meeting)) (place : ℕ) (old result : Option Meeting) (met : Meeting) → place < length row →
      old ≡ met_at row place → new ≡ set row place result → IsFirstMet old met result →
      IsOffer H lines values s (get_or targets place 0) met →
      length new ≡ length row → AreOffers H lines values s targets row → AreOffers H lines values s targets new
  offers_more row new place old result met low read is first offer long are c x inside at =
      let here : met_at (set row place result) c ≡ Some x = sym (ap (λ (l : List (Option Meeting)). met_at l c) is) ∙ at in
      elim (cases_eq c place) [
        | inl same ↦ (
            let value : result ≡ Some x =
            sym (ap (λ (n : ℕ). met_at (set row place result) n) same ∙ get_or-set_same row place result None low) ∙ here in
            subst (λ (n : ℕ). IsOffer H lines values s (get_or targets n 0) x) (sym same) (elim first.chosen [
              | inl new_one ↦ (
                  let equal : met ≡ x = same_Some _ _ (sym new_one ∙ value) in
                  subst (IsOffer H lines values s (get_or targets place 0)) equal offer)
              | inr old_one ↦ are place x low (sym read ∙ sym old_one ∙ value)
            ]))
        | inr away ↦ are c x (omega (arith, inside, long)) (sym (get_or-set_other row place c result None away) ∙ here)
      ]

-- without meetings there is none of others
pub offers_none : (H : LevelsAndLegs) (lines : Lines) (values targets : List ℕ) (s : ℕ) (row : List (Option Meeting)) (n : ℕ) →
    row ≡ replicate n None → AreOffers H lines values s targets row
offers_none H lines values targets s row n is c met low at =
    let size : length row ≡ n = ap length is ∙ length-replicate n None in
    let here : met_at row c ≡ None =
    ap (λ (l : List (Option Meeting)). met_at l c) is ∙ get_or-replicate n c None None (omega (arith, low, size)) in
    absurd (none-some met (sym here ∙ at))

-- a row with one more meeting covers what it covered, and the new one
module _ (row new : List (Option Meeting)) (place : ℕ) (old result : Option Meeting) (met : Meeting) (low : place < length row)
    (read : old ≡ met_at row place) (is : new ≡ set row place result) (first : IsFirstMet old met result) where
  at_place : met_at new place ≡ result
  at_place = ap (λ (l : List (Option Meeting)). met_at l place) is ∙ get_or-set_same row place result None low

  pub covers_still : KeepsCovers row new
  covers_still c v cost covers = elim (cases_eq c place) [
    | inl same ↦ (
        let before : Covers old v cost =
        subst (λ (o : Option Meeting). Covers o v cost) (ap (met_at row) same ∙ sym read) covers in
        subst (λ (o : Option Meeting). Covers o v cost) (sym (ap (met_at new) same ∙ at_place))
        (first_old old result met first v cost before))
    | inr away ↦ subst (λ (o : Option Meeting). Covers o v cost)
        (sym (ap (λ (l : List (Option Meeting)). met_at l c) is ∙ get_or-set_other row place c result None away)) covers
  ]

  pub covers_new : Covers (met_at new place) met.node met.cost
  covers_new = subst (λ (o : Option Meeting). Covers o met.node met.cost) (sym at_place) (first_new old result met first)

-- one more stop is covered
pub stops_more : (v : ℕ) (cost : Cost) (stops : List Stop) (j : ℕ) (row new : List (Option Meeting)) → CoverStops v cost stops j row →
    KeepsCovers row new → ((d : Stop) → Covers (met_at new (get_or stops j d).place) v (cost_sum cost (get_or stops j d).cost)) →
    CoverStops v cost stops (j + 1) new
stops_more v cost stops j row new are keeps here k d low = elim (cases_lt k j) [
  | inl less ↦ keeps (get_or stops k d).place v (cost_sum cost (get_or stops k d).cost) (are k d less)
  | inr more ↦ (
      let same : j ≡ k = omega (arith, low, more) in
      subst (λ (n : ℕ). Covers (met_at new (get_or stops n d).place) v (cost_sum cost (get_or stops n d).cost)) same (here d))
]

-- one more branch is covered
pub branches_more : (branches : List Branch) (i : ℕ) (names : List ℕ) (stops : List (List Stop)) (row new : List (Option Meeting)) →
    CoverBranches branches i names stops row → KeepsCovers row new →
    ((d : Branch) → CoverSlots (get_or branches i d).node (get_or branches i d).cost names stops new) →
    CoverBranches branches (i + 1) names stops new
branches_more branches i names stops row new are keeps here k d low = elim (cases_lt k i) [
  | inl less ↦ (λ q slot j e inside.
      let all = get_or stops q [] in
      keeps (get_or all j e).place (get_or branches k d).node (cost_sum (get_or branches k d).cost (get_or all j e).cost)
      (are k d less q slot j e inside))
  | inr more ↦ (
      let same : i ≡ k = omega (arith, low, more) in
      subst (λ (n : ℕ). CoverSlots (get_or branches n d).node (get_or branches n d).cost names stops new) same (here d))
]

module _ (H : LevelsAndLegs) (lines : Lines) (values targets : List ℕ) where
  -- the pairs of no target
  pub pairs_none : AreStopPairs H lines values targets 0 []
  pairs_none = record {
    sound = λ v stop has. absurd (contains_none (v, stop) has);
    whole = λ c v cost low tight. absurd (omega (arith, low));
  }

  -- those of one more target
  pub pairs_more : (n : ℕ) (pairs new : List (ℕ × Stop)) (branches : List Branch) →
      AreBranches Down H lines values (get_or targets n 0) branches →
      new ≡ pairs ++ map (stop_pair n) branches → AreStopPairs H lines values targets n pairs →
      AreStopPairs H lines values targets (n + 1) new
  pairs_more n pairs new branches made is are =
      let here = map (stop_pair n) branches in
      subst (AreStopPairs H lines values targets (n + 1)) (sym is) (record {
        sound = λ v stop has. elim (Contains-append_cases pairs here (v, stop) has) [
          | inl before ↦ (let old = are.sound v stop before in (omega (arith, old.0), old.1))
          | inr there ↦ (
              let r = contains_map_of (stop_pair n) branches (v, stop) there in
              let branch = made.sound r.0 r.1 in
              let node : r.0.node ≡ v = ap (λ (e : ℕ × Stop). e.0) r.2 in
              let value : (record { place = n; cost = r.0.cost; sum = r.0.sum }) ≡ stop = ap (λ (e : ℕ × Stop). e.1) r.2 in
              subst (λ (x : Stop). (x.place < n + 1) × IsBranch Down H lines values (get_or targets x.place 0) v x.cost x.sum) value
              (omega arith, subst (λ (m : ℕ). IsBranch Down H lines values (get_or targets n 0) m r.0.cost r.0.sum) node branch))
        ];
        whole = λ c v cost low tight. elim (cases_lt c n) [
          | inl less ↦ (
              let old = are.whole c v cost less tight in
              (old.0, Contains-append_left pairs here (v, (record { place = c; cost = cost; sum = old.0 })) old.1))
          | inr more ↦ (
              let at : n ≡ c = omega (arith, low, more) in
              let own = made.whole v cost (subst (λ (m : ℕ). IsTight H Down (get_or targets m 0) v cost) (sym at) tight) in (
                own.0,
                Contains-append_right pairs here (v, (record { place = c; cost = cost; sum = own.0 }))
                    (subst (λ (m : ℕ). Contains here (v, (record { place = m; cost = cost; sum = own.0 }))) at
                    (contains_map (stop_pair n) branches (record { node = v; cost = cost; sum = own.0 }) own.1)),
              ))
        ];
      })

  module _ (names : List ℕ) (pairs : List (ℕ × Stop)) (low : All (λ (p : ℕ × Stop). p.0 < length names) pairs)
      (are : AreStopPairs H lines values targets (length targets) (named names pairs)) where
    -- the rows that they make are the stops
    pub stops_are : (stops : List (List Stop)) → AreRowsOf (length names) pairs stops → AreStops H lines values targets names stops
    stops_are stops made = record {
      sound = λ i stop has. are.sound (get_or names i 0) stop (at_slot names pairs stops made i stop has);
      whole = λ c v cost inside tight.
          let own = are.whole c v cost inside tight in
          let at = slot_at names pairs low stops made v (record { place = c; cost = cost; sum = own.0 }) own.1 in
          (at.0, own.0, at.1, at.2);
    }

  -- the branches of a side are at nodes
  pub branches_low : (side : Side) (s : ℕ) (branches : List Branch) → AreBranches side H lines values s branches → (n : ℕ) →
      n ≡ nodes_of H → All (λ (e : Branch). e.node < n) branches
  branches_low side s branches made n size k d low =
      let is = made.sound (get_or branches k d) (Contains-get_or branches k d low) in
      let node = is.node in
      omega (arith, node, size)

  module _ (names : List ℕ) (stops : List (List Stop)) (at : AreStops H lines values targets names stops) (s : ℕ) (branches : List Branch)
      (made : AreBranches Up H lines values s branches) where
    -- the stops are within the places of a row
    pub stops_within : (n : ℕ) → length targets ≡ n → (v : ℕ) → All (IsStopWithin n) (get_or stops v [])
    stops_within n size v k d low =
        let stop = get_or (get_or stops v []) k d in
        let is = at.sound v stop (Contains-get_or (get_or stops v []) k d low) in
        let inside : stop.place < n = omega (arith, is.0, size) in
        (inside, (is.1.path.weight, is.1.arcs))

    -- the costs of the branches are small
    pub branches_small : All (λ (e : Branch). IsSmall e.cost) branches
    branches_small k d low =
        let is = made.sound (get_or branches k d) (Contains-get_or branches k d low) in
        (is.path.weight, is.arcs)

    -- a row that covers all has the cells of s
    pub cells_are : (row : List (Option Meeting)) → length row ≡ length targets → AreOffers H lines values s targets row →
        CoverBranches branches (length branches) names stops row → AreCells H lines values s targets row
    cells_are row size offers covers = (
      size,
      λ c low. record {
        offer = λ x is. offers c x (omega (arith, low, size)) is;
        covers = λ v a b up down.
            let first = made.whole v a up in
            let second = at.whole c v b low down in
            let e : Branch = record { node = v; cost = a; sum = first.0 } in
            let stop : Stop = record { place = c; cost = b; sum = second.1 } in
            let i = first.1.0 in
            let q = second.0 in
            let j = second.3.0 in
            let here : get_or branches i e ≡ e = first.1.2 in
            let slot : IsSlotOf names (get_or branches i e).node q =
            subst (λ (x : Branch). IsSlotOf names x.node q) (sym here) second.2 in
            subst (λ (x : Branch). Covers (met_at row c) x.node (cost_sum x.cost b)) here
            (subst (λ (x : Stop). Covers (met_at row x.place) (get_or branches i e).node (cost_sum (get_or branches i e).cost x.cost))
            second.3.2 (covers i e first.1.1 q slot j stop second.3.1));
      },
    )

-- where the first meeting is, the route meets
module _ (H : LevelsAndLegs) (k : IsKeptForSome H) (lines : Lines) (values : List ℕ) (s t : ℕ) (met : Option Meeting)
    (cell : IsCell H lines values s t met) where
  law : MeetingsAreDistances k.0 H
  law = meetings_are_distances k.0 H k.1 k.2

  -- a meeting of least cost is covered
  covered : (c : Cost) → IsLeastMeeting H s t c → (m : ℕ) → IsMeeting H s t m c → Covers met m c
  covered c h m (a, b, rise, fall, sum) =
      let up = least_reached H.up s m a rise in
      let down = least_reached H.down t m b fall in
      subst (Covers met m) sum (cell.covers m a b (tight_up H k s t m a b c h up down sum) (tight_down H k s t m a b c h up down sum))

  -- without a meeting there is none in the hierarchy
  pub cell_never : met ≡ None → NeverMeets H s t
  cell_never none m d meeting = elim ((kept_has_walks k.0 H k.1 k.2).decided s t) [
    | inl least ↦ (
        let h = (law.least s t least.0).0 least.1 in
        subst (λ (o : Option Meeting). Covers o h.meets.0 least.0) none (covered least.0 h h.meets.0 h.meets.1))
    | inr never ↦ (law.never s t).0 never m d meeting
  ]

  -- with one, its sum is that along the route
  pub cell_route : (x : Meeting) → met ≡ Some x → x.sum ≢ unknown → IsRouteSum H lines values s t (x.cost.weight, x.sum)
  cell_route x is known =
      let offer = cell.offer x is in
      let walk : IsWalkCost k.0 s t (cost_sum offer.up offer.down) =
      sum_walk H k s t x.node offer.up offer.down offer.rise.path offer.fall.path in
      let least : (c : Cost) × IsLeast k.0 s t c = elim ((kept_has_walks k.0 H k.1 k.2).decided s t) [
        | inl some ↦ some
        | inr never ↦ absurd (never walk.0 walk.1)
      ] in
      let c = least.0 in
      let h : IsLeastMeeting H s t c = (law.least s t c).0 least.1 in
      let first : MeetsFirst (x.cost, x.node) (c, h.meets.0) =
      subst (λ (o : Option Meeting). Covers o h.meets.0 c) is (covered c h h.meets.0 h.meets.1) in
      let below : IsAtMost c (cost_sum offer.up offer.down) = IsLeast-IsAtMost k.0 s t c (cost_sum offer.up offer.down) least.1 walk in
      let more : IsAtMost c x.cost = subst (IsAtMost c) (sym offer.cost) below in
      let same : c ≡ x.cost = IsAtMost_antisymm c x.cost more first.0 in
      let own : IsLeastMeeting H s t x.cost = subst (IsLeastMeeting H s t) same h in
      let up = tight_up H k s t x.node offer.up offer.down x.cost own offer.rise.path offer.fall.path (sym offer.cost) in
      let down = tight_down H k s t x.node offer.up offer.down x.cost own offer.rise.path offer.fall.path (sym offer.cost) in
      let meets : IsMeet H s t x.node x.cost = record {
        meets = (offer.up, offer.down, up.0, down.0, sym offer.cost);
        least = λ m d meeting. (
          own.least m d meeting,
          λ equal.
              let h_d : IsLeastMeeting H s t d = subst (IsLeastMeeting H s t) (sym equal) own in
              let at : MeetsFirst (x.cost, x.node) (d, m) = subst (λ (o : Option Meeting). Covers o m d) is (covered d h_d m meeting) in
              at.1 (sym equal),
        );
      } in
      let sums = offer.sum known in
      subst (λ (n : ℕ). IsRouteSum H lines values s t (x.cost.weight, n)) (sym sums.2)
      (route_over H lines values s t x.node x.cost offer.first offer.second meets
      (offer.rise.sum_is up sums.0) (offer.fall.sum_is down sums.1))
