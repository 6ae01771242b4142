-- The ways back in two trees from where a route meets make the route, and have the sum along it.
use Rattle.std.proofs.Common.{◌≡◌, ℕ, ◌+◌, ◌<◌, List, [], ◌∷◌, ◌++◌, get_or, Some, refl, sym, subst, arith}
use Rattle.ch_graph.specs.declared.arc.InArc.{InArc}
use Rattle.ch_graph.specs.declared.cost.Cost.{Cost}
use Rattle.ch_graph.proofs.SimpleWalks.{IsLeast-arcs}
use Rattle.ch_hierarchy.specs.Hierarchy.{LevelsAndLegs, nodes_of}
use Rattle.ch_hierarchy.specs.Paths.{IsMeet}
use Rattle.ch_hierarchy.specs.declared.side.Side.TheVariants.{Up, Down}
use Rattle.ch_query.specs.declared.routes.Route.{Route}
use Rattle.ch_query.specs.Routes.{AreDownArcs, AreUpArcs, DescentStep, IsRouteBy}
use Rattle.ch_query.proofs.routing.RouteWalks.{route_least_walk}
use Rattle.ch_engine.specs.Held.{Held}
use Rattle.ch_engine.specs.LegSums.{IsDescentSum, IsRouteSum, IsStepsSum, IsSumBetween}
use Rattle.ch_engine.specs.Lines.{IsOfSome, Lines}
use Rattle.ch_engine.specs.RouteSums.{IsPairSum}
use Rattle.ch_engine.proofs.LegSums.{sum_of_none, sums_joined}
use Rattle.ch_engine.proofs.RouteLines.{arc_line}
use Rattle.ch_engine.proofs.Ways.{way_short}

module _ (H : LevelsAndLegs) (lines : Lines) (values : List ℕ) where
  -- the arcs up along the steps of a descent, with their sum
  up_arcs : (steps : List DescentStep) (sum : ℕ) → IsStepsSum Up H lines values steps sum →
      (arcs : List InArc) × AreUpArcs H steps arcs × IsSumBetween H lines values arcs sum
  up_arcs [] sum is = ([], refl, subst (IsSumBetween H lines values []) (sym is) (sum_of_none H lines values))
  up_arcs (step ∷ steps) sum is =
      let before = up_arcs steps is.1 is.3 in
      let swapped : is.1 + is.0 ≡ sum = omega (arith, is.4) in (
        before.0 ++ is.2.0,
        (before.0, is.2.0, before.1, is.2.1, refl),
        subst (IsSumBetween H lines values (before.0 ++ is.2.0)) swapped
            (sums_joined H lines values before.0 is.2.0 is.1 is.0 before.2 is.2.2),
      )

  -- the same of the arcs down
  down_arcs : (steps : List DescentStep) (sum : ℕ) → IsStepsSum Down H lines values steps sum →
      (arcs : List InArc) × AreDownArcs H steps arcs × IsSumBetween H lines values arcs sum
  down_arcs [] sum is = ([], refl, subst (IsSumBetween H lines values []) (sym is) (sum_of_none H lines values))
  down_arcs (step ∷ steps) sum is =
      let after = down_arcs steps is.1 is.3 in (
        is.2.0 ++ after.0,
        (is.2.0, after.0, is.2.1, after.1, refl),
        subst (IsSumBetween H lines values (is.2.0 ++ after.0)) (sym is.4)
            (sums_joined H lines values is.2.0 after.0 is.0 is.1 is.2.2 after.2),
      )

  -- the ways back from the meet make the route
  pub route_over : (s t meet : ℕ) (cost : Cost) (a b : ℕ) → IsMeet H s t meet cost → IsDescentSum Up H lines values s meet a →
      IsDescentSum Down H lines values t meet b → IsRouteSum H lines values s t (cost.weight, a + b)
  route_over s t meet cost a b meets p q =
      let first = up_arcs p.0 a p.2 in
      let second = down_arcs q.0 b q.2 in
      let route : Route = record { weight = cost.weight; arcs = first.0 ++ second.0 } in (
        route,
        record {
          meet = meet;
          cost = cost;
          meets = meets;
          weight = refl;
          ups = p.0;
          downs = q.0;
          rise = p.1;
          fall = q.1;
          first = first.0;
          second = second.0;
          up_arcs = first.1;
          down_arcs = second.1;
          arcs = refl;
        },
        refl,
        sums_joined H lines values first.0 second.0 a b first.2 second.2,
      )

-- what is told of the legs of a route is told of the lines of its arcs
pub tree_pair : (held : Held) (values : List ℕ) (s t : ℕ) → IsOfSome held.hierarchy held.lines → t < nodes_of held.hierarchy →
    (found : ℕ × ℕ) → IsRouteSum held.hierarchy held.lines values s t found → IsPairSum held values s t found.0 found.1
tree_pair held values s t of low found is =
    let H = held.hierarchy in
    let route : Route = is.0 in
    let by : IsRouteBy H s t (Some route) = λ g limits kept. route_least_walk g H kept limits s t route is.1 in
    let walk = by of.0 of.1 of.2 in
    let nodes = of.2.nodes in
    let few = IsLeast-arcs of.0 s t _ of.1 (omega (arith, nodes, low)) walk.0.least in
    let sum = is.3 in (
      Some route,
      record { chosen = is.1; walk = by; few = way_short s (nodes_of H) (Some route) (omega (arith, few, nodes)) },
      is.2,
      (
        sum.0,
        record {
          long = sum.1.long;
          each = λ j d inside. arc_line H held.lines s t route by j d inside (get_or sum.0 j 0) (sum.1.each j d inside);
        },
        sum.2,
      ),
    )
