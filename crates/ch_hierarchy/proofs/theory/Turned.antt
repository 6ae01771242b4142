-- The properties of a graph and a hierarchy hold in the other direction too.
use Rattle.std.proofs.Common.{◌≡◌, ℕ, ◌≤◌, List, [], ◌∷◌, map, Contains, Option, Some, None, sym, ◌∙◌, ap, subst, inl, inr}
use Rattle.std.proofs.lemmas.List.{length-map, map-id}
use Rattle.std.proofs.lemmas.List.Elements.{All-map}
use Rattle.std.proofs.lemmas.Simd.{map-map}
use Rattle.ch_graph.specs.declared.limits.TheConstants.{MOST_ARCS}
use Rattle.ch_graph.specs.declared.arc.InArc.{InArc}
use Rattle.ch_graph.specs.declared.cost.Cost.{Cost}
use Rattle.ch_graph.specs.Cost.{IsAtMost, no_cost}
use Rattle.ch_graph.specs.Graph.{Network, IsArcWithin, IsWithinLimits}
use Rattle.ch_graph.specs.Walk.{IsWalk, IsLeast, cost_of}
use Rattle.ch_graph.specs.WalkLaws.{IsWalkCost, arc_cost}
use Rattle.ch_graph.proofs.CostSums.{cost_sum_comm}
use Rattle.ch_graph.proofs.Lists.{contains_map}
use Rattle.ch_graph.proofs.WalkCosts.{cost_of-cons, IsWalkCost-no_cost, IsWalkCost-arc, IsWalkCost-cost_sum, IsLeast-from, IsLeast-IsAtMost}
use Rattle.ch_hierarchy.specs.declared.leg.Leg.{Leg}
use Rattle.ch_hierarchy.specs.Hierarchy.{LevelsAndLegs, AreLegsUp, IsLevelled}
use Rattle.ch_hierarchy.specs.Paths.{IsMeeting}
use Rattle.ch_hierarchy.specs.Kept.{IsLeg, IsFounded, IsKept}
use Rattle.ch_hierarchy.specs.Turned.{turned_arc, turned_graph, turned_hierarchy}

-- reversing arcs twice changes nothing
arcs_turned_twice : (arcs : List InArc) → map turned_arc (map turned_arc arcs) ≡ arcs
arcs_turned_twice arcs = map-map turned_arc turned_arc arcs ∙ map-id arcs

turned_twice : (g : Network) → turned_graph (turned_graph g) ≡ g
turned_twice g = ap (λ arcs. record { nodes = g.nodes; arcs = arcs }) (arcs_turned_twice g.arcs)

-- the arcs of a walk lead back at the same cost
walk_back : (g : Network) (s t : ℕ) (arcs : List InArc) → IsWalk g s t arcs → IsWalkCost (turned_graph g) t s (cost_of arcs)
walk_back g s t [] w = subst (λ q. IsWalkCost (turned_graph g) t q no_cost) (sym w) (IsWalkCost-no_cost (turned_graph g) t)
walk_back g s t (a ∷ arcs) w =
    let last = subst (λ q. IsWalkCost (turned_graph g) a.to q (arc_cost a)) w.1
    (IsWalkCost-arc (turned_graph g) (turned_arc a) (contains_map turned_arc g.arcs a w.0)) in
    subst (IsWalkCost (turned_graph g) t s) (cost_sum_comm (cost_of arcs) (arc_cost a) ∙ sym (cost_of-cons a arcs))
    (IsWalkCost-cost_sum (turned_graph g) t a.to s (cost_of arcs) (arc_cost a) (walk_back g a.to t arcs w.2) last)

-- a walk gives a walk in the other direction at the same cost
pub turned_walk : (g : Network) (s t : ℕ) (c : Cost) → IsWalkCost g s t c → IsWalkCost (turned_graph g) t s c
turned_walk g s t c w = subst (IsWalkCost (turned_graph g) t s) w.2 (walk_back g s t w.0 w.1)

pub walk_turned : (g : Network) (s t : ℕ) (c : Cost) → IsWalkCost (turned_graph g) t s c → IsWalkCost g s t c
walk_turned g s t c w = subst (λ k. IsWalkCost k s t c) (turned_twice g) (turned_walk (turned_graph g) t s c w)

-- a least cost is the least cost in the other direction too
pub turned_least : (g : Network) (s t : ℕ) (c : Cost) → IsLeast g s t c → IsLeast (turned_graph g) t s c
turned_least g s t c l =
    IsLeast-from (turned_graph g) t s c (turned_walk g s t c l.walk) (λ d w. IsLeast-IsAtMost g s t c d l (walk_turned g s t d w))

pub least_turned : (g : Network) (s t : ℕ) (c : Cost) → IsLeast (turned_graph g) t s c → IsLeast g s t c
least_turned g s t c l = subst (λ k. IsLeast k s t c) (turned_twice g) (turned_least (turned_graph g) t s c l)

-- the limits are kept in the other direction
pub turned_limits : (g : Network) → IsWithinLimits g → IsWithinLimits (turned_graph g)
turned_limits g limits = record {
  size = (limits.size.0, subst (λ n. n ≤ MOST_ARCS) (sym (length-map g.arcs turned_arc)) limits.size.1);
  each = All-map (IsArcWithin g.nodes) turned_arc g.arcs
      (λ k d lt. let is = limits.each k d lt in record { ends = (is.ends.1, is.ends.0); weight = is.weight });
}

-- legs still lead to higher nodes in the other direction
turned_rows : (H : LevelsAndLegs) (rows : List (List Leg)) → AreLegsUp H rows → AreLegsUp (turned_hierarchy H) rows
turned_rows H rows are = (
  are.0,
  λ v. (
    (are.1 v).0,
    λ k d lt. let up = (are.1 v).1 k d lt in
        record { node = up.node; higher = up.higher; weight = up.weight; arcs = up.arcs },
  ),
)

pub turned_levelled : (H : LevelsAndLegs) → IsLevelled H → IsLevelled (turned_hierarchy H)
turned_levelled H is = record { count = is.count; levels = is.levels; up = turned_rows H H.down is.down; down = turned_rows H H.up is.up }

-- a leg is a leg in the other direction
pub turned_leg : (H : LevelsAndLegs) (u w : ℕ) (c : Cost) (m : Option ℕ) → IsLeg H u w c m → IsLeg (turned_hierarchy H) w u c m
turned_leg H u w c m (l, cost, same, inl up) = (l, cost, same, inr up)
turned_leg H u w c m (l, cost, same, inr down) = (l, cost, same, inl down)

-- a leg that is founded is founded in the other direction
turned_founded : (g : Network) (H : LevelsAndLegs) (u w : ℕ) (c : Cost) (m : Option ℕ) → IsFounded g H u w c m →
    IsFounded (turned_graph g) (turned_hierarchy H) w u c m
turned_founded g H u w c None f = (f.0, contains_map turned_arc g.arcs (record { from = u; to = w; weight = c.weight }) f.1)
turned_founded g H u w c (Some v) f = (f.1, f.0, f.4, f.5, f.2, f.3, f.6 ∙ cost_sum_comm f.0.cost f.1.cost)

-- paths that meet also meet in the other direction
pub turned_meeting : (H : LevelsAndLegs) (s t m : ℕ) (c : Cost) → IsMeeting H s t m c → IsMeeting (turned_hierarchy H) t s m c
turned_meeting H s t m c h = (h.1, h.0, h.3, h.2, cost_sum_comm h.1 h.0 ∙ h.4)

-- a hierarchy that is right for a graph is right for the reversed graph when it is reversed
pub turned_kept : (g : Network) (H : LevelsAndLegs) → IsKept g H → IsKept (turned_graph g) (turned_hierarchy H)
turned_kept g H kept = record {
  nodes = kept.nodes;
  levelled = turned_levelled H kept.levelled;
  founded = λ u w c m leg. turned_founded g H w u c m (kept.founded w u c m (turned_leg (turned_hierarchy H) u w c m leg));
  arcs = λ a has apart.
      let before = subst (λ arcs. Contains arcs (turned_arc a)) (arcs_turned_twice g.arcs)
      (contains_map turned_arc (map turned_arc g.arcs) a has) in
      let leg = kept.arcs (turned_arc a) before (λ e. apart (sym e)) in
      (leg.0, leg.1, turned_leg H a.to a.from leg.0 leg.1 leg.2, leg.3);
  covered = λ v a b down up apart.
      let meets = kept.covered v b a up down (λ e. apart (sym e)) in (
        meets.0,
        meets.1,
        turned_meeting H b.node a.node meets.0 meets.1 meets.2,
        subst (IsAtMost meets.1) (cost_sum_comm b.cost a.cost) meets.3,
      );
}
