-- At most is a total order of costs, with no cost as its least element, and below is its strict order.
use Rattle.ch_graph.proofs.CostOrder.{IsAtMost_refl, IsAtMost_trans, IsAtMost_antisymm, IsAtMost_or_IsBelow, IsBelow_not, IsAtMost-no_cost}
use Rattle.ch_graph.proofs.laws.costs_are_ordered.Goals as goal

pub returns : goal.returns
returns c = record {
  reflexive = IsAtMost_refl;
  transitive = IsAtMost_trans;
  antisymmetric = IsAtMost_antisymm;
  total = IsAtMost_or_IsBelow;
  strict = IsBelow_not;
  least = IsAtMost-no_cost;
}
