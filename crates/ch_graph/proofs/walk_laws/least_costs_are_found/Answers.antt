-- Between two nodes there is one least cost of a walk or no walk, and its weight is the distance.
use Rattle.ch_graph.proofs.WalkCosts.{IsLeast_unique}
use Rattle.ch_graph.proofs.LeastSearch.{IsLeast-decided, IsLeast-IsDistance, IsDistance-IsLeast}
use Rattle.ch_graph.proofs.walk_laws.least_costs_are_found.Goals as goal

pub returns : goal.returns
returns c g = record {
  decided = IsLeast-decided g;
  one = IsLeast_unique g;
  distance = IsLeast-IsDistance g;
  of_distance = IsDistance-IsLeast g;
}
