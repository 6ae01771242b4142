-- Between two nodes of a levelled hierarchy there is at most one route.
use Rattle.ch_query.proofs.routing.RouteWalks.{route_one}
use Rattle.ch_query.proofs.laws.one_route.Goals as goal

pub returns : goal.returns
returns c H s t a b k = route_one H k s t a b
