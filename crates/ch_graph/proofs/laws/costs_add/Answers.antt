-- Sums of costs are associative, commutative and neutral at no cost, and keep the order in both directions.
use Rattle.ch_graph.proofs.CostSums.{cost_sum_assoc, cost_sum_comm, cost_sum-no_cost, IsAtMost-cost_sum, IsBelow-cost_sum_left}
use Rattle.ch_graph.proofs.CostSums.{cost_sum_cancel_right}
use Rattle.ch_graph.proofs.laws.costs_add.Goals as goal

pub returns : goal.returns
returns c = record {
  associative = cost_sum_assoc;
  commutative = cost_sum_comm;
  neutral = cost_sum-no_cost;
  monotone = IsAtMost-cost_sum;
  strict = IsBelow-cost_sum_left;
  cancelling = cost_sum_cancel_right;
}
