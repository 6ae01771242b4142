-- The answers of the call for a route.
use Rattle.std.proofs.Common.{◌≡◌, ℕ, ◌<◌, length, reverse, [], ◌≤◌, List, true, false, Option, Some, None, Result, refl, sym, ap}
use Rattle.std.proofs.Common.{subst, arith}
use Rattle.std.specs.Prelude.{IfOk, MatchOption, ⊤, ◌+◌, Vec, vec_len, vec_capacity}
use Rattle.std.specs.declared.alloc.Global.{Global}
use Rattle.std.specs.declared.alloc.AllocError.{AllocError}
use Rattle.std.specs.List.Sorted.{IsPermutation}
use Rattle.std.proofs.lemmas.Result.{IfOk-weaker}
use Rattle.ch_graph.specs.declared.cost.Cost.{Cost}
use Rattle.ch_graph.proofs.SimpleWalks.{IsLeast-arcs}
use Rattle.ch_hierarchy.specs.Hierarchy.{LevelsAndLegs, nodes_of}
use Rattle.ch_hierarchy.specs.Paths.{IsMeet, NeverMeets}
use Rattle.ch_hierarchy.specs.declared.side.Side.TheVariants.{Up, Down}
use Rattle.ch_hierarchy.proofs.theory.KeptWalks.{meetings_are_distances}
use Rattle.ch_query.specs.declared.sides.search.Search.{Search}
use Rattle.ch_query.specs.declared.routes.Route.{Route}
use Rattle.ch_query.specs.declared.routes.unpacking.PendingLeg.{PendingLeg}
use Rattle.ch_query.specs.Distance.{IsKeptForSome}
use Rattle.ch_query.specs.TwoSided.{IsPast}
use Rattle.ch_query.specs.Meeting.{AreMeeting}
use Rattle.ch_query.specs.Questions.{stalling}
use Rattle.ch_query.specs.Routes.{IsRoute, IsRouteBy}
use Rattle.ch_query.specs.Descents.{HasReached, HasReachedWithRoom, IsTraced}
use Rattle.ch_query.specs.Unpacking.{ArePending, pending_arcs}
use Rattle.ch_query.specs.Ways.{AreLegsFound, AreLegsOver, AreWayLegs, IsRouteOf}
use Rattle.ch_query.proofs.two_sides.Distances.{meet_is_least}
use Rattle.ch_query.proofs.two_sides.LeastMeeting.{reached}
use Rattle.ch_query.proofs.routing.PendingLegs.{pending_few, pending_unpacked}
use Rattle.ch_query.proofs.routing.RouteArcs.{route_traced, traced_pending, traced_arcs, turned_pending, turned_arcs}
use Rattle.ch_query.proofs.routing.RouteWalks.{route_least_walk}

-- the answer is the route over the meet, or none if there is no meet
abbrev pub FindsRoute : LevelsAndLegs → ℕ → ℕ → Option Route → Type 0
FindsRoute H s t answer = (route : Route) × (answer ≡ Some route) × IsRoute H s t route

module _ (H : LevelsAndLegs) (s t : ℕ) where
  -- if there is no meeting, there is no walk
  pub never_walks : NeverMeets H s t → IsRouteBy H s t None
  never_walks never g limits kept = ((meetings_are_distances g H limits kept).never s t).1 never

  -- a route is a least walk in each graph that the hierarchy is right for
  finds_walks : (answer : Option Route) → FindsRoute H s t answer → IsRouteBy H s t answer
  finds_walks answer f = subst (IsRouteBy H s t) (sym f.1) (λ g limits kept. route_least_walk g H kept limits s t f.0 f.2)

  -- a route has fewer arcs than there are nodes
  route_few : IsKeptForSome H → t < nodes_of H → (route : Route) → IsRoute H s t route → length route.arcs < nodes_of H
  route_few k within route r =
      let w = route_least_walk k.0 H k.2 k.1 s t route r in
      let nodes = k.2.nodes in
      let few = IsLeast-arcs k.0 s t _ k.1 (omega arith) w.0.least in
      omega arith

  Few : Option Route → Type 0
  Few answer = MatchOption answer ⊤ (λ route. length route.arcs < nodes_of H)

  -- the answer is a least walk
  pub found_walks : (r : Result (Option Route) AllocError) → IfOk r (FindsRoute H s t) → IfOk r (IsRouteBy H s t)
  found_walks r = IfOk-weaker r (FindsRoute H s t) (IsRouteBy H s t) finds_walks

  pub found_few : IsKeptForSome H → t < nodes_of H → (r : Result (Option Route) AllocError) → IfOk r (FindsRoute H s t) →
      IfOk r (λ answer. MatchOption answer ⊤ (λ route. length route.arcs < nodes_of H))
  unfolding Few
  found_few k within r = IfOk-weaker r (FindsRoute H s t) Few (λ answer f. subst Few (sym f.1) (route_few k within f.0 f.2))

-- the conditions of each call after the meet was found
module _ (H : LevelsAndLegs) (k : IsKeptForSome H) (s t : ℕ) (x y : Search) (m : ℕ) (c : Cost)
    (meeting : AreMeeting H (stalling Up s) (stalling Down t) x y (Some (c, m)))
    (past : IsPast x.queue (Some (c, m)) × IsPast y.queue (Some (c, m))) (meet : IsMeet H s t m c)
    (start : Vec PendingLeg Global) (none : start.items ≡ []) (len : vec_len start ≡ 0) (wide : c.arcs ≤ vec_capacity start) where
  -- the cost of the way up to the meet
  up : Cost
  up = meet.meets.0

  -- the cost of the way down from the meet
  down : Cost
  down = meet.meets.1

  -- both together have as many arcs as the route
  both : up.arcs + down.arcs ≡ c.arcs
  unfolding up down
  both = ap (λ (q : Cost). q.arcs) meet.meets.4

  -- both searches have reached the meet
  reached_both : HasReached H (stalling Up s) x m up × HasReached H (stalling Down t) y m down
  unfolding up down
  reached_both =
      reached H k s t x y (Some (c, m)) meeting past.0 past.1 c (meet_is_least H s t m c meet) m meet.meets

  -- there is room for the way back to the end
  pub room_down : HasReachedWithRoom H (stalling Down t) y m start
  room_down = (down, reached_both.1, let sum = both in omega arith)

  module _ (fallen turned : Vec PendingLeg Global) (fall : IsTraced H Down t m start.items fallen.items)
      (same : vec_capacity fallen ≡ vec_capacity start)
      (turn : IsPermutation fallen.items turned.items) (long : vec_len turned ≡ vec_len fallen)
      (same' : vec_capacity turned ≡ vec_capacity fallen) where
    -- the legs of the way back to the end are legs of the hierarchy
    fallen_pending : ArePending H fallen.items
    fallen_pending = traced_pending H Down t m start.items fallen.items fall
        (λ p has. absurd (let e = ap length none in let lt = has.1 in omega arith))

    -- these legs stand for as many arcs as the way down has
    fallen_arcs : pending_arcs fallen.items ≡ down.arcs
    fallen_arcs = let sum = traced_arcs H Down t m down reached_both.1.least start.items fallen.items fall in
        let nothing = ap pending_arcs none in omega arith

    -- there is room for the way back to the start
    pub room_up : HasReachedWithRoom H (stalling Up s) x m turned
    room_up = (
      up,
      reached_both.0,
      let sum = both in let few = pending_few H k fallen.items fallen_pending in let arcs = fallen_arcs in let ok = fallen.ok in
          omega arith,
    )

    module _ (all : Vec PendingLeg Global) (rise : IsTraced H Up s m turned.items all.items)
        (same'' : vec_capacity all ≡ vec_capacity turned) where
      -- all pending legs are legs of the hierarchy
      pub all_pending : ArePending H all.items
      all_pending = traced_pending H Up s m turned.items all.items rise
          (turned_pending H fallen.items turned.items turn fallen_pending)

      -- they stand for as many arcs as the route has
      all_arcs : pending_arcs all.items ≡ c.arcs
      all_arcs =
          let rising = traced_arcs H Up s m up reached_both.0.least turned.items all.items rise in
          let falling = turned_arcs fallen.items turned.items turn in
          let down_is = fallen_arcs in
          let sum = both in omega arith

      -- they are the legs of the route
      pub legs_over_meet : turned.items ≡ reverse fallen.items → AreLegsOver H s t c all
      legs_over_meet turn_is = record {
        pending = all_pending;
        arcs = all_arcs;
        room = omega arith;
        route = λ arcs are. route_traced H s t m c meet fallen.items turned.items all.items
            (subst (λ old. IsTraced H Down t m old fallen.items) none fall) turn_is rise arcs are;
      }

-- the arcs of the legs of a way are the route
pub way_route : (H : LevelsAndLegs) (s t weight : ℕ) (c : Cost) (legs : List PendingLeg) → c.weight ≡ weight → AreWayLegs H s t c legs →
    (r : Result (Option Route) AllocError) → IfOk r (IsRouteOf H weight legs) → IfOk r (FindsRoute H s t)
way_route H s t weight c legs is way r found = IfOk-weaker r (IsRouteOf H weight legs) (FindsRoute H s t)
    (λ answer f. (
      record { weight = weight; arcs = f.0 },
      f.2,
      subst (λ w. IsRoute H s t (record { weight = w; arcs = f.0 })) is (way.route f.0 f.1),
    )) found

-- the legs of a way, and the arcs that they stand for, are those of the route
pub way_found : (H : LevelsAndLegs) → IsKeptForSome H → (s t : ℕ) (c : Cost) (legs : List PendingLeg) → AreWayLegs H s t c legs →
    AreLegsFound H s t true legs
way_found H k s t c legs way =
    let arcs = pending_unpacked H k legs way.pending in
    (Some (record { weight = c.weight; arcs = arcs.0 }), refl, (way.route arcs.0 arcs.1, way.pending, arcs.1))

-- the legs of a way over a meet, and the arcs that they stand for, are those of the route
pub legs_found : (H : LevelsAndLegs) → IsKeptForSome H → (s t : ℕ) (c : Cost) (legs : Vec PendingLeg Global) → AreLegsOver H s t c legs →
    AreLegsFound H s t true legs.items
legs_found H k s t c legs over =
    let arcs = pending_unpacked H k legs.items over.pending in
    (Some (record { weight = c.weight; arcs = arcs.0 }), refl, (over.route arcs.0 arcs.1, over.pending, arcs.1))

-- without a meet there are no legs
pub legs_missing : (H : LevelsAndLegs) (s t : ℕ) (legs : List PendingLeg) → NeverMeets H s t → legs ≡ [] → AreLegsFound H s t false legs
legs_missing H s t legs never none = (None, refl, (never, none))
