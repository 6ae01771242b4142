-- Facts about a kept hierarchy: its walks, the least meetings, and tight paths.
use Rattle.std.proofs.Common.{ℕ, List, [], ◌∷◌, refl, sym, ◌∙◌, subst, arith, inl, inr}
use Rattle.std.specs.Prelude.{◌↔◌}
use Rattle.std.proofs.lemmas.Bool.{cases_eq}
use Rattle.ch_graph.specs.declared.cost.Cost.{Cost}
use Rattle.ch_graph.specs.declared.arc.InArc.{InArc}
use Rattle.ch_graph.specs.Cost.{IsAtMost, cost_sum, no_cost}
use Rattle.ch_graph.specs.Graph.{Network, IsWithinLimits}
use Rattle.ch_graph.specs.Walk.{IsWalk, cost_of, IsDistance, IsLeast, IsUnreachable}
use Rattle.ch_graph.specs.WalkLaws.{IsWalkCost}
use Rattle.ch_graph.proofs.CostOrder.{IsAtMost_refl, IsBelow-IsAtMost}
use Rattle.ch_graph.proofs.CostSums.{IsAtMost-cost_sum, cost_sum_assoc, cost_sum_comm}
use Rattle.ch_graph.proofs.WalkCosts.{IsAtMost_between, cost_of-cons, IsBelow-cons, IsWalkCost-cost_sum, IsLeast-IsAtMost}
use Rattle.ch_graph.proofs.WalkCosts.{IsLeast-again, IsLeast-front, IsLeast-back}
use Rattle.ch_graph.proofs.SimpleWalks.{IsLeast-weight}
use Rattle.ch_graph.proofs.LeastSearch.{IsLeast-decided, IsLeast-IsDistance, IsDistance-IsLeast}
use Rattle.ch_hierarchy.specs.declared.leg.Leg.{Leg}
use Rattle.ch_hierarchy.specs.Hierarchy.{LevelsAndLegs}
use Rattle.ch_hierarchy.specs.Paths.{IsUpwardPath, path_cost, IsUp, IsDown, IsMeeting, NeverMeets}
use Rattle.ch_hierarchy.specs.Kept.{IsLeg, IsKept}
use Rattle.ch_hierarchy.specs.Turned.{turned_graph, turned_hierarchy}
use Rattle.ch_hierarchy.specs.KeptLaws.{HasWalks, IsLeastMeeting, MeetingsAreDistances, IsTightUp, IsTightDown, TightPathsAreLeast}
use Rattle.ch_hierarchy.proofs.theory.LegPaths.{IsHighPath, HasHighPath, path_cost-cons}
use Rattle.ch_hierarchy.proofs.theory.MeetingPaths.{HasMeetingPaths, meeting_paths_within, matched}
use Rattle.ch_hierarchy.proofs.theory.LegWalks.{rises, falls}
use Rattle.ch_hierarchy.proofs.theory.Turned.{turned_least, least_turned, turned_limits, turned_kept}

module _ (g : Network) (H : LevelsAndLegs) (limits : IsWithinLimits g) (kept : IsKept g H) where
  -- for each walk there is a path of legs of no greater cost, with one leg for each arc that is no loop
  walk_path : (s t : ℕ) (arcs : List InArc) → IsWalk g s t arcs → HasHighPath H 0 s t (cost_of arcs)
  walk_path s t [] w = record { legs = []; is_path = (w, omega arith); cheap = IsAtMost_refl no_cost }
  walk_path s t (a ∷ arcs) w =
      let rest = walk_path a.to t arcs w.2 in
      elim (cases_eq a.from a.to) [
        | inl loop ↦ record {
          legs = rest.legs;
          is_path = subst (λ q. IsHighPath H 0 q t rest.legs) (sym loop ∙ w.1) rest.is_path;
          cheap = IsBelow-IsAtMost _ _ (IsBelow-cons a (path_cost rest.legs) arcs rest.cheap);
        }
        | inr apart ↦
            let leg = kept.arcs a w.0 apart in
            let first : Leg = record { node = a.to; cost = leg.0; middle = leg.1 } in
            record {
              legs = first ∷ rest.legs;
              is_path = (subst (λ q. IsLeg H q a.to leg.0 leg.1) w.1 leg.2, omega arith, rest.is_path);
              cheap = IsAtMost_between (path_cost-cons first rest.legs) (cost_of-cons a arcs) (IsAtMost-cost_sum _ _ _ _ leg.3 rest.cheap);
            }
      ]

  -- each walk is matched by two paths that meet, of no greater cost
  walk_matched : (s t : ℕ) (c : Cost) → IsWalkCost g s t c → HasMeetingPaths H s t c
  walk_matched s t c w =
      let path = walk_path s t w.0 w.1 in
      meeting_paths_within H s t _ c (subst (IsAtMost (path_cost path.legs)) w.2 path.cheap) (matched g H kept s t path.legs path.is_path)

  -- a kept hierarchy has walks
  pub kept_has_walks : HasWalks g H
  kept_has_walks = record {
    rises = rises g H kept;
    falls = falls g H kept;
    meets = λ s t c l. let p = walk_matched s t c l.walk in
        (p.node, p.ups, p.downs, p.rise, p.fall, p.cheap, IsLeast-weight g s t c limits l);
    decided = IsLeast-decided g;
  }

  -- an upward path whose cost is the least cost of a walk is a least upward path
  least_up : (a b : ℕ) (legs : List Leg) → IsUpwardPath H.up a b legs → IsLeast g a b (path_cost legs) → IsUp H a b (path_cost legs)
  least_up a b legs p l = record {
    path = (legs, p, refl);
    weight = IsLeast-weight g a b (path_cost legs) limits l;
    least = λ others q light. IsLeast-IsAtMost g a b (path_cost legs) (path_cost others) l (rises g H kept a b others q);
  }

  -- tight legs up to x are least
  tight_up : (s t x : ℕ) (legs : List Leg) → IsTightUp g H s t x legs → IsUp H s x (path_cost legs) × IsLeast g s x (path_cost legs)
  tight_up s t x legs h =
      let first = rises g H kept s x legs h.rise.0 in
      let rest = IsWalkCost-cost_sum g x h.m t _ _ (rises g H kept x h.m h.onward h.rise.1) (falls g H kept t h.m h.downs h.fall) in
      let order = cost_sum_assoc (path_cost legs) (path_cost h.onward) (path_cost h.downs) in
      let same = IsLeast-again g s t h.cost _ h.least (IsWalkCost-cost_sum g s x t _ _ first rest)
      (subst (λ q. IsAtMost q h.cost) order h.cheap) in
      let least = IsLeast-front g s x t _ _ (subst (IsLeast g s t) (sym same) h.least) first rest in
      (least_up s x legs h.rise.0 least, least)

module _ (g : Network) (H : LevelsAndLegs) (limits : IsWithinLimits g) (kept : IsKept g H) where
  -- the same along the down rows
  least_down : (a b : ℕ) (legs : List Leg) → IsUpwardPath H.down a b legs → IsLeast g b a (path_cost legs) → IsDown H b a (path_cost legs)
  least_down a b legs p l = least_up (turned_graph g) (turned_hierarchy H) (turned_limits g limits) (turned_kept g H kept) a b legs
      p (turned_least g b a (path_cost legs) l)

  -- tight legs down from x are least, because in the other direction they are tight legs up
  tight_down : (s t x : ℕ) (legs : List Leg) → IsTightDown g H s t x legs → IsDown H x t (path_cost legs) × IsLeast g x t (path_cost legs)
  tight_down s t x legs h =
      let up = tight_up (turned_graph g) (turned_hierarchy H) (turned_limits g limits) (turned_kept g H kept) t s x legs (record {
        m = h.m;
        onward = h.onward;
        downs = h.ups;
        cost = h.cost;
        least = turned_least g s t h.cost h.least;
        rise = h.fall;
        fall = h.rise;
        cheap = subst (λ q. IsAtMost q h.cost) (cost_sum_comm (path_cost h.ups) (cost_sum (path_cost legs) (path_cost h.onward))) h.cheap;
      }) in
      (up.0, least_turned g x t (path_cost legs) up.1)

  -- tight paths of a kept hierarchy are least
  pub tight_paths_are_least : TightPathsAreLeast g H
  tight_paths_are_least = record { up = tight_up g H limits kept; down = tight_down }

  -- a meeting gives a walk of its cost
  meeting_walk : (s t m : ℕ) (c : Cost) → IsMeeting H s t m c → IsWalkCost g s t c
  meeting_walk s t m c h =
      let up = h.2.path in
      let down = h.3.path in
      subst (IsWalkCost g s t) h.4 (IsWalkCost-cost_sum g s m t h.0 h.1
      (subst (IsWalkCost g s m) up.2 (rises g H kept s m up.0 up.1)) (subst (IsWalkCost g m t) down.2 (falls g H kept t m down.0 down.1)))

  -- the cost of a least walk is that of a meeting
  least_meets : (s t : ℕ) (c : Cost) → IsLeast g s t c → (m : ℕ) × IsMeeting H s t m c
  least_meets s t c l =
      let p = walk_matched g H limits kept s t c l.walk in
      let up = rises g H kept s p.node p.ups p.rise in
      let down = falls g H kept t p.node p.downs p.fall in
      let same = IsLeast-again g s t c (cost_sum (path_cost p.ups) (path_cost p.downs)) l
      (IsWalkCost-cost_sum g s p.node t (path_cost p.ups) (path_cost p.downs) up down) p.cheap in
      let whole = subst (IsLeast g s t) (sym same) l in (
        p.node,
        (
          path_cost p.ups,
          path_cost p.downs,
          least_up g H limits kept s p.node p.ups p.rise (IsLeast-front g s p.node t _ _ whole up down),
          least_down t p.node p.downs p.fall (IsLeast-back g s p.node t _ _ whole up down),
          same,
        ),
      )

  -- a walk that costs at most each meeting costs the least
  no_dearer : (s t : ℕ) (c : Cost) → IsWalkCost g s t c → ((m : ℕ) (d : Cost) → IsMeeting H s t m d → IsAtMost c d) → IsLeast g s t c
  no_dearer s t c w least = elim (IsLeast-decided g s t) [
    | inl found ↦
        let there = least_meets s t found.0 found.1 in
        subst (IsLeast g s t) (sym (IsLeast-again g s t found.0 c found.1 w (least there.0 found.0 there.1))) found.1
    | inr none ↦ absurd (none w.0 w.1)
  ]

  -- the cost of a least meeting is the least cost of a walk
  of_least_meeting : (s t : ℕ) (c : Cost) → IsLeastMeeting H s t c → IsLeast g s t c
  of_least_meeting s t c h = no_dearer s t c (meeting_walk s t h.meets.0 c h.meets.1) h.least

  -- the cost of a least walk is that of a least meeting
  to_least_meeting : (s t : ℕ) (c : Cost) → IsLeast g s t c → IsLeastMeeting H s t c
  to_least_meeting s t c l = record { meets = least_meets s t c l; least = λ m d h. IsLeast-IsAtMost g s t c d l (meeting_walk s t m d h) }

  -- there is no meeting exactly when there is no walk
  never_meets : (s t : ℕ) → IsUnreachable g s t ↔ NeverMeets H s t
  never_meets s t = (
    (λ none m d h. let w = meeting_walk s t m d h in none w.0 w.1),
    (λ never. elim (IsLeast-decided g s t) [
      | inl found ↦ let there = least_meets s t found.0 found.1 in absurd (never there.0 found.0 there.1)
      | inr none ↦ none
    ]),
  )

  -- the costs of the least meetings of a kept hierarchy are the least costs of walks
  pub meetings_are_distances : MeetingsAreDistances g H
  meetings_are_distances = record {
    least = λ s t c. (to_least_meeting s t c, of_least_meeting s t c);
    meet = λ s t m c h. no_dearer s t c (meeting_walk s t m c h.meets) (λ k d there. (h.least k d there).0);
    distance = λ s t x. (
      (λ d. let l = IsDistance-IsLeast g s t x d in (l.0, to_least_meeting s t l.0 l.1, l.2)),
      (λ h. subst (IsDistance g s t) h.2 (IsLeast-IsDistance g s t h.0 (of_least_meeting s t h.0 h.1))),
    );
    never = never_meets;
  }
