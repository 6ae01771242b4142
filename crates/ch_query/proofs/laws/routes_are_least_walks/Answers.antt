-- A route by a right hierarchy is a walk of the least weight, and has the fewest arcs of such walks.
use Rattle.ch_query.proofs.routing.RouteWalks.{route_least_walk}
use Rattle.ch_query.proofs.laws.routes_are_least_walks.Goals as goal

pub returns : goal.returns
returns c g H s t route limits kept = route_least_walk g H kept limits s t route
