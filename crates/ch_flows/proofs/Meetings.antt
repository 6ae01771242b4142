-- Two trees meet where a route does, and the ways back from there make the route.
use Rattle.std.proofs.Common.{◌≡◌, ℕ, ◌+◌, ◌<◌, ◌≤◌, List, [], ◌++◌, length, map, Contains, Some, None, true, false, Option}
use Rattle.std.proofs.Common.{inl, inr, refl, sym, ◌∙◌, ap, subst, arith}
use Rattle.std.proofs.lemmas.Bool.{cases_lt}
use Rattle.std.proofs.lemmas.List.{get_or-map, length-map}
use Rattle.std.proofs.lemmas.List.Elements.{Contains-get_or}
use Rattle.ch_graph.specs.declared.cost.Cost.{Cost}
use Rattle.ch_graph.specs.Cost.{IsAtMost, IsBelow, cost_sum}
use Rattle.ch_graph.proofs.CostSums.{cost_sum_comm}
use Rattle.ch_graph.proofs.Lists.{contains_map}
use Rattle.ch_graph.proofs.WalkCosts.{IsLeast-IsAtMost}
use Rattle.ch_graph.proofs.CostOrder.{IsAtMost_antisymm, IsAtMost_refl, IsAtMost_trans, IsBelow-IsAtMost, IsBelow_not}
use Rattle.ch_hierarchy.specs.Hierarchy.{LevelsAndLegs}
use Rattle.ch_hierarchy.specs.Paths.{IsMeet, IsMeeting, NeverMeets}
use Rattle.ch_hierarchy.specs.KeptLaws.{IsLeastMeeting, MeetingsAreDistances}
use Rattle.ch_hierarchy.proofs.theory.KeptWalks.{kept_has_walks, meetings_are_distances}
use Rattle.ch_query.specs.Distance.{IsKeptForSome}
use Rattle.ch_query.specs.Search.{IsStalled}
use Rattle.ch_query.specs.SearchSpace.{IsTight}
use Rattle.ch_query.proofs.one_side.End.{least_reached}
use Rattle.ch_query.proofs.one_side.Expanding.{reached_by_leg}
use Rattle.ch_query.proofs.one_side.TightNodes.{sum_walk, tight_down, tight_up}
use Rattle.ch_hierarchy.specs.declared.side.Side.TheVariants.{Up, Down}
use Rattle.ch_query.specs.declared.routes.Route.{Route}
use Rattle.ch_flows.specs.declared.handing.Halves.{Halves}
use Rattle.ch_flows.specs.declared.meeting.Meet.{Meet}
use Rattle.ch_flows.specs.declared.plan.Link.{Link}
use Rattle.ch_flows.specs.declared.meeting.Meeting.{Meeting}
use Rattle.ch_flows.specs.Meetings.{AreShared, IsFirstMeet, IsFirstOf, IsMeetingSoFar, shared_cost}
use Rattle.ch_flows.specs.Plans.{IsPlan, IsWay, IsWayFound}
use Rattle.ch_flows.specs.declared.tree.Mark.{Mark}
use Rattle.ch_flows.specs.Trees.{AreMarksInOrder, IsOpenSpread, IsWayBack, mark_at, no_mark, plain}
use Rattle.ch_flows.proofs.TreeWays.{down_way, up_way}
use Rattle.ch_flows.proofs.WaysByLegs.{way_joined, way_none}

-- in a list in order each node has one entry
one_entry : (entries : List (ℕ × Mark)) → AreMarksInOrder entries → (i j : ℕ) → i < length entries → j < length entries →
    (mark_at entries i).0 ≡ (mark_at entries j).0 → i ≡ j
one_entry entries order i j low below same = elim (cases_lt i j) [
  | inl less ↦ absurd (let rise = order i j (0, no_mark) less below in omega (arith, rise, same))
  | inr more ↦ elim (cases_lt j i) [
    | inl less ↦ absurd (let rise = order j i (0, no_mark) less low in omega (arith, rise, same))
    | inr fewer ↦ omega (arith, more, fewer)
  ]
]

module _ (ups downs : List (ℕ × Mark)) (n : ℕ) (rise : AreMarksInOrder ups) (order : AreMarksInOrder downs) (low : n < length ups) where
  -- an entry of the other list at the node of entry n
  module _ (k : ℕ) (inside : k < length downs) (node : (mark_at downs k).0 ≡ (mark_at ups n).0) where
    abbrev pub new : Meet
    new = record {
      cost = shared_cost ups downs n k;
      up = (mark_at ups n).1.spot;
      down = (mark_at downs k).1.spot;
    }

    -- it is the only one at this node
    own : (i j : ℕ) → AreShared ups downs (n + 1) i j → n ≤ i → (i ≡ n) × (j ≡ k)
    own i j shared more =
        let same : i ≡ n = omega (arith, more, shared.0) in
        (same, one_entry downs order j k shared.1 inside (sym shared.2 ∙ ap (λ (m : ℕ). (mark_at ups m).0) same ∙ sym node))

    own_cost : (i j : ℕ) → (i ≡ n) × (j ≡ k) → shared_cost ups downs i j ≡ new.cost
    own_cost i j is =
        ap (λ (m : ℕ). cost_sum (mark_at ups m).1.cost (mark_at downs j).1.cost) is.0
        ∙ ap (λ (m : ℕ). cost_sum (mark_at ups n).1.cost (mark_at downs m).1.cost) is.1

    own_node : (i : ℕ) → i ≡ n → (mark_at ups i).0 ≡ (mark_at ups n).0
    own_node i same = ap (λ (m : ℕ). (mark_at ups m).0) same

    -- it was not seen before
    pub meet_goes_on : (old result : Meeting) → IsMeetingSoFar ups downs n old → IsFirstOf old new result →
        IsMeetingSoFar ups downs (n + 1) result
    meet_goes_on Meeting.Unknown result before is = subst (IsMeetingSoFar ups downs (n + 1)) (sym is) tt
    meet_goes_on Meeting.Nowhere result before is = subst (IsMeetingSoFar ups downs (n + 1)) (sym is) (record {
      here = n;
      there = k;
      is = (omega arith, inside, sym node);
      cost = refl;
      up = refl;
      down = refl;
      least = λ i j shared. elim (cases_lt i n) [
        | inl less ↦ absurd (before i j (less, shared.1, shared.2))
        | inr more ↦ (
            let at = own i j shared more in
            (subst (IsAtMost new.cost) (sym (own_cost i j at)) (IsAtMost_refl new.cost), λ same. omega (arith, own_node i at.0)))
      ];
    })
    meet_goes_on (Meeting.At old) result before (inl is) = subst (IsMeetingSoFar ups downs (n + 1)) (sym is.0) (record {
      here = n;
      there = k;
      is = (omega arith, inside, sym node);
      cost = refl;
      up = refl;
      down = refl;
      least = λ i j shared. elim (cases_lt i n) [
        | inl less ↦ (
            let most = before.least i j (less, shared.1, shared.2) in (
              IsAtMost_trans new.cost old.cost (shared_cost ups downs i j) (IsBelow-IsAtMost new.cost old.cost is.1) most.0,
              λ same. absurd (IsBelow_not new.cost old.cost is.1 (subst (IsAtMost old.cost) same most.0)),
            ))
        | inr more ↦ (
            let at = own i j shared more in
            (subst (IsAtMost new.cost) (sym (own_cost i j at)) (IsAtMost_refl new.cost), λ same. omega (arith, own_node i at.0)))
      ];
    })
    meet_goes_on (Meeting.At old) result before (inr is) = subst (IsMeetingSoFar ups downs (n + 1)) (sym is.0) (record {
      here = before.here;
      there = before.there;
      is = (omega (arith, before.is.0), before.is.1, before.is.2);
      cost = before.cost;
      up = before.up;
      down = before.down;
      least = λ i j shared. elim (cases_lt i n) [
        | inl less ↦ before.least i j (less, shared.1, shared.2)
        | inr more ↦ (
            let at = own i j shared more in
            let lower : (mark_at ups before.here).0 < (mark_at ups n).0 = rise before.here n (0, no_mark) before.is.0 low in (
              subst (IsAtMost old.cost) (sym (own_cost i j at)) is.1,
              λ same. omega (arith, own_node i at.0, lower),
            ))
      ];
    })

    -- it was seen before
    pub meet_again : (old result : Meeting) → IsMeetingSoFar ups downs (n + 1) old → IsFirstOf old new result →
        IsMeetingSoFar ups downs (n + 1) result
    meet_again Meeting.Unknown result before is = subst (IsMeetingSoFar ups downs (n + 1)) (sym is) tt
    meet_again Meeting.Nowhere result before is = absurd (before n k (omega arith, inside, sym node))
    meet_again (Meeting.At old) result before (inl is) =
        absurd (IsBelow_not new.cost old.cost is.1 (before.least n k (omega arith, inside, sym node)).0)
    meet_again (Meeting.At old) result before (inr is) = subst (IsMeetingSoFar ups downs (n + 1)) (sym is.0) before

  -- the other list has no entry at the node of entry n
  pub meet_stays : ((j : ℕ) → j < length downs → (mark_at downs j).0 ≡ (mark_at ups n).0 → ⊥) → (old : Meeting) →
      IsMeetingSoFar ups downs n old → IsMeetingSoFar ups downs (n + 1) old
  meet_stays none Meeting.Unknown before = tt
  meet_stays none Meeting.Nowhere before = λ i j shared. elim (cases_lt i n) [
    | inl less ↦ before i j (less, shared.1, shared.2)
    | inr more ↦ (
        let same : i ≡ n = omega (arith, more, shared.0) in
        none j shared.1 (sym shared.2 ∙ ap (λ (m : ℕ). (mark_at ups m).0) same))
  ]
  meet_stays none (Meeting.At meet) before = record {
    here = before.here;
    there = before.there;
    is = (omega (arith, before.is.0), before.is.1, before.is.2);
    cost = before.cost;
    up = before.up;
    down = before.down;
    least = λ i j shared. elim (cases_lt i n) [
      | inl less ↦ before.least i j (less, shared.1, shared.2)
      | inr more ↦ absurd (
          let same : i ≡ n = omega (arith, more, shared.0) in
          none j shared.1 (sym shared.2 ∙ ap (λ (m : ℕ). (mark_at ups m).0) same))
    ];
  }

module _ (H : LevelsAndLegs) (k : IsKeptForSome H) (s t : ℕ) (ups downs : List (ℕ × Mark)) (up : IsOpenSpread H.up H.down s (map plain ups))
    (down : IsOpenSpread H.down H.up t (map plain downs)) where
  -- least meetings are distances
  law : MeetingsAreDistances k.0 H
  law = meetings_are_distances k.0 H k.1 k.2

  -- the entries of both lists at a node where paths meet
  record AreAt (m : ℕ) (a b : Cost) : Type 0 where
    i : ℕ
    j : ℕ
    shared : AreShared ups downs (length ups) i j
    node : (mark_at ups i).0 ≡ m
    cost : shared_cost ups downs i j ≡ cost_sum a b

  -- an entry by its place
  entry_of : (list : List (ℕ × Mark)) (m : ℕ) (a : Cost) (has : Contains (map plain list) (m, a)) →
      (has.0 < length list) × (plain (mark_at list has.0) ≡ (m, a))
  entry_of list m a has =
      let low : has.0 < length list = omega (arith, has.1, length-map list plain) in
      (low, sym (get_or-map plain list has.0 (0, no_mark) (m, a) low) ∙ has.2)

  at_node : (m : ℕ) (a b : Cost) → Contains (map plain ups) (m, a) → Contains (map plain downs) (m, b) → AreAt m a b
  at_node m a b here there =
      let e = entry_of downs m b there in
      let f = entry_of ups m a here in
      let next : (mark_at downs there.0).0 ≡ m = ap (λ (p : ℕ × Cost). p.0) e.1 in
      let node : (mark_at ups here.0).0 ≡ m = ap (λ (p : ℕ × Cost). p.0) f.1 in
      record {
        i = here.0;
        j = there.0;
        shared = (f.0, e.0, node ∙ sym next);
        node = node;
        cost = ap (λ (p : ℕ × Cost). cost_sum p.1 (mark_at downs there.0).1.cost) f.1 ∙ ap (λ (p : ℕ × Cost). cost_sum a p.1) e.1;
      }

  -- a tight node is not stalled
  not_stalled_up : (m : ℕ) (a : Cost) → IsTight H Up s m a → IsStalled H.up H.down s m a → ⊥
  not_stalled_up m a tight is =
      let walk = sum_walk H k s m is.leg.node is.cost is.leg.cost is.reached (reached_by_leg H k.2.levelled Down m is.leg is.has) in
      let least = (law.least s m a).1 tight.1 in
      IsBelow_not (cost_sum is.cost is.leg.cost) a is.below (IsLeast-IsAtMost k.0 s m a (cost_sum is.cost is.leg.cost) least walk)

  not_stalled_down : (m : ℕ) (b : Cost) → IsTight H Down t m b → IsStalled H.down H.up t m b → ⊥
  not_stalled_down m b tight is =
      let walk = sum_walk H k m t is.leg.node is.leg.cost is.cost (reached_by_leg H k.2.levelled Up m is.leg is.has) is.reached in
      let least = (law.least m t b).1 tight.1 in
      let below : IsBelow (cost_sum is.leg.cost is.cost) b =
      subst (λ (c : Cost). IsBelow c b) (cost_sum_comm is.cost is.leg.cost) is.below in
      IsBelow_not (cost_sum is.leg.cost is.cost) b below (IsLeast-IsAtMost k.0 m t b (cost_sum is.leg.cost is.cost) least walk)

  -- where paths meet at the least cost there are entries
  at_least : (c : Cost) → IsLeastMeeting H s t c → (m : ℕ) (meeting : IsMeeting H s t m c) → AreAt m meeting.0 meeting.1
  at_least c h m (a, b, rise, fall, sum) =
      let upward = least_reached H.up s m a rise in
      let downward = least_reached H.down t m b fall in
      let here : Contains (map plain ups) (m, a) = elim (up.whole m a rise) [
        | inl has ↦ has
        | inr stalled ↦ absurd (not_stalled_up m a (tight_up H k s t m a b c h upward downward sum) stalled)
      ] in
      let there : Contains (map plain downs) (m, b) = elim (down.whole m b fall) [
        | inl has ↦ has
        | inr stalled ↦ absurd (not_stalled_down m b (tight_down H k s t m a b c h upward downward sum) stalled)
      ] in
      at_node m a b here there

  -- where paths meet at all, some meet at the least cost
  some_least : (m : ℕ) (d : Cost) → IsMeeting H s t m d → (c : Cost) × IsLeastMeeting H s t c
  some_least m d meeting = elim ((kept_has_walks k.0 H k.1 k.2).decided s t) [
    | inl least ↦ (least.0, (law.least s t least.0).0 least.1)
    | inr none ↦ absurd ((law.never s t).0 none m d meeting)
  ]

  -- without shared entries no paths meet
  pub never : IsMeetingSoFar ups downs (length ups) Meeting.Nowhere → NeverMeets H s t
  never apart m d meeting =
      let c = some_least m d meeting in
      let at = at_least c.0 c.1 c.1.meets.0 c.1.meets.1 in
      apart at.i at.j at.shared

  -- the least numbered node of least cost that both have is where the route meets
  pub meets : (meet : Meet) (first : IsFirstMeet ups downs (length ups) meet) → IsMeet H s t (mark_at ups first.here).0 meet.cost
  meets meet first =
      let x = (mark_at ups first.here).0 in
      let a = (mark_at ups first.here).1.cost in
      let b = (mark_at downs first.there).1.cost in
      let has : Contains (map plain ups) (x, a) =
      contains_map plain ups (mark_at ups first.here) (Contains-get_or ups first.here (0, no_mark) first.is.0) in
      let there : Contains (map plain downs) ((mark_at downs first.there).0, b) =
      contains_map plain downs (mark_at downs first.there) (Contains-get_or downs first.there (0, no_mark) first.is.1) in
      let other : Contains (map plain downs) (x, b) =
      subst (λ (n : ℕ). Contains (map plain downs) (n, b)) (sym first.is.2) there in
      let own : IsMeeting H s t x meet.cost = (a, b, up.sound x a has, down.sound x b other, sym first.cost) in
      let c = some_least x meet.cost own in
      let best = at_least c.0 c.1 c.1.meets.0 c.1.meets.1 in
      let most : IsAtMost meet.cost c.0 =
      subst (IsAtMost meet.cost) (best.cost ∙ c.1.meets.1.4) (first.least best.i best.j best.shared).0 in
      let same : c.0 ≡ meet.cost = IsAtMost_antisymm c.0 meet.cost (c.1.least x meet.cost own) most in
      let least : IsLeastMeeting H s t meet.cost = subst (IsLeastMeeting H s t) same c.1 in
      record {
        meets = own;
        least = λ m d meeting. (
          least.least m d meeting,
          λ equal.
              let at = at_least d (subst (IsLeastMeeting H s t) (sym equal) least) m meeting in
              let is : shared_cost ups downs at.i at.j ≡ d = at.cost ∙ meeting.4 in
              let before = (first.least at.i at.j at.shared).1 (is ∙ equal) in
              omega (arith, before, at.node),
        );
      }

-- the way over the meet is that of the route
pub way_over : (H : LevelsAndLegs) (links : List Link) (parts : List (Option Halves)) → IsPlan H links parts → (s t meet : ℕ) (cost : Cost)
    (old middle new : List ℕ) → IsMeet H s t meet cost → old ≡ [] → IsWayBack Up H links s meet old middle →
    IsWayBack Down H links t meet middle new → IsWayFound H links s t new true
way_over H links parts plan s t meet cost old middle new meets none rise fall =
    let first = up_way H links parts plan rise.0 rise.1 rise.3 in
    let second = down_way H links parts plan fall.0 fall.1 fall.3 in
    let route : Route = record { weight = cost.weight; arcs = first.0 ++ second.0 } in
    let e : rise.1 ++ fall.1 ≡ new =
    sym (fall.4 ∙ ap (λ (l : List ℕ). l ++ fall.1) (rise.4 ∙ ap (λ (l : List ℕ). l ++ rise.1) none)) in (
      Some route,
      refl,
      record {
        meet = meet;
        cost = cost;
        meets = meets;
        weight = refl;
        ups = rise.0;
        downs = fall.0;
        rise = rise.2;
        fall = fall.2;
        first = first.0;
        second = second.0;
        up_arcs = first.1;
        down_arcs = second.1;
        arcs = refl;
      },
      subst (λ (l : List ℕ). IsWay H links l (first.0 ++ second.0)) e
          (way_joined H links rise.1 fall.1 first.0 second.0 first.2 second.2),
    )

-- where no paths meet there is no way
pub no_way : (H : LevelsAndLegs) (links : List Link) (s t : ℕ) (places : List ℕ) → NeverMeets H s t → places ≡ [] →
    IsWayFound H links s t places false
no_way H links s t places never none =
    (None, refl, never, subst (λ (l : List ℕ). IsWay H links l []) (sym none) (way_none H links))
