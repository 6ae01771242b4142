-- Laws of routes.
use Rattle.std.specs.Prelude.{◌≡◌, ℕ}
use Rattle.ch_graph.specs.Graph.{Network, IsWithinLimits}
use Rattle.ch_graph.specs.Walk.{weight_of}
use Rattle.ch_hierarchy.specs.Hierarchy.{LevelsAndLegs, IsLevelled}
use Rattle.ch_hierarchy.specs.Kept.{IsKept}
use Rattle.ch_query.specs.declared.routes.Route.{Route}
use Rattle.ch_query.specs.Routes.{IsRoute, IsLeastWalk}

-- two routes between the same nodes are equal
abbrev pub OneRoute : Type 0
OneRoute = (H : LevelsAndLegs) (s t : ℕ) (a b : Route) → IsLevelled H → IsRoute H s t a → IsRoute H s t b → a ≡ b

-- in each graph that the hierarchy is right for, a route is a walk of least cost, and it has the stated weight
abbrev pub RoutesAreLeastWalks : Type 0
RoutesAreLeastWalks = (g : Network) (H : LevelsAndLegs) (s t : ℕ) (route : Route) → IsWithinLimits g → IsKept g H → IsRoute H s t route →
    IsLeastWalk g s t route.arcs × (route.weight ≡ weight_of route.arcs)
