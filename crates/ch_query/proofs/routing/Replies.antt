-- A route gives the answer to its query, and the arcs of an answer are the only ones and a walk of least cost.
use Rattle.std.proofs.Common.{◌≡◌, ℕ, true, List, Option, Some, None, refl, sym, ◌∙◌, ap, subst}
use Rattle.std.proofs.lemmas.Option.{none-some, same_Some}
use Rattle.ch_graph.specs.declared.arc.InArc.{InArc}
use Rattle.ch_graph.specs.Graph.{Network, IsWithinLimits}
use Rattle.ch_hierarchy.specs.Hierarchy.{LevelsAndLegs, IsLevelled}
use Rattle.ch_hierarchy.specs.Kept.{IsKept}
use Rattle.ch_hierarchy.specs.Paths.{NeverMeets}
use Rattle.ch_query.specs.declared.routes.Route.{Route}
use Rattle.ch_query.specs.Replies.{HasArcs, IsReply}
use Rattle.ch_query.specs.Distance.{IsLeastWeight}
use Rattle.ch_query.specs.Routes.{IsLeastWalk, IsRoute}
use Rattle.ch_query.proofs.routing.RouteWalks.{route_least_walk, route_one}
use Rattle.ch_query.proofs.two_sides.Distances.{least_weight, weight_is_distance}

module _ (H : LevelsAndLegs) (s t : ℕ) where
  -- the answer without a route
  pub reply_none : NeverMeets H s t → IsReply H true (s, t) (record { from = s; to = t; weight = None; arcs = None })
  reply_none never = record { from = refl; to = refl; least = never; distance = weight_is_distance H s t None never; arcs = refl }

  -- the answer with a route, whose weight is the least
  pub reply_some : (route : Route) → IsRoute H s t route →
      IsReply H true (s, t) (record { from = s; to = t; weight = Some route.weight; arcs = Some route.arcs })
  reply_some route is =
      let least : IsLeastWeight H s t (Some route.weight) = subst (λ w. IsLeastWeight H s t (Some w)) (sym is.weight)
      (least_weight H s t (Some (is.cost, is.meet)) is.meets) in
      record { from = refl; to = refl; least = least; distance = weight_is_distance H s t (Some route.weight) least; arcs = is }

-- for one weight there is only one list of arcs
pub one_arcs : (H : LevelsAndLegs) → IsLevelled H → (s t : ℕ) (w : Option ℕ) (xs ys : Option (List InArc)) →
    HasArcs H true s t w xs → HasArcs H true s t w ys → xs ≡ ys
one_arcs H levelled s t None xs ys h k = h ∙ sym k
one_arcs H levelled s t (Some x) None ys h k = absurd h
one_arcs H levelled s t (Some x) (Some xs) None h k = absurd k
one_arcs H levelled s t (Some x) (Some xs) (Some ys) h k =
    ap (λ (r : Route). Some r.arcs)
    (route_one H levelled s t (record { weight = x; arcs = xs }) (record { weight = x; arcs = ys }) h k)

-- the arcs of an answer are a walk of least cost
pub arcs_walk : (g : Network) (H : LevelsAndLegs) → IsWithinLimits g → IsKept g H → (s t : ℕ) (weight : Option ℕ)
    (found : Option (List InArc)) → HasArcs H true s t weight found → (arcs : List InArc) → found ≡ Some arcs → IsLeastWalk g s t arcs
arcs_walk g H limits kept s t None found h arcs is = absurd (none-some arcs (sym h ∙ is))
arcs_walk g H limits kept s t (Some x) None h arcs is = absurd h
arcs_walk g H limits kept s t (Some x) (Some xs) h arcs is =
    subst (IsLeastWalk g s t) (same_Some xs arcs is) (route_least_walk g H kept limits s t (record { weight = x; arcs = xs }) h).0
