-- The result of comparing two costs says which one is at most the other, below it, equal to it, and the lesser.
use Rattle.ch_graph.proofs.CostOrder.{is_le-cost_cmp, is_lt-cost_cmp, is_eq-cost_cmp, ord_min-cost_cmp}
use Rattle.ch_graph.proofs.laws.comparing_tells_order.Goals as goal

pub returns-clause-order : goal.returns-clause-order
returns-clause-order c = record {
  at_most = is_le-cost_cmp;
  below = is_lt-cost_cmp;
  equal = is_eq-cost_cmp;
  lesser = ord_min-cost_cmp;
}
