-- Sums of costs, and their order.
use Rattle.std.proofs.Common.{◌≡◌, arith}
use Rattle.ch_graph.specs.declared.cost.Cost.{Cost}
use Rattle.ch_graph.specs.Cost.{IsAtMost, IsBelow, cost_sum, no_cost}
use Rattle.ch_graph.proofs.CostOrder.{same_costs}

-- sums of costs are those of a commutative monoid
pub cost_sum_assoc : (a b c : Cost) → cost_sum (cost_sum a b) c ≡ cost_sum a (cost_sum b c)
cost_sum_assoc a b c = same_costs _ _ (omega arith) (omega arith)

pub cost_sum_comm : (a b : Cost) → cost_sum a b ≡ cost_sum b a
cost_sum_comm a b = same_costs _ _ (omega arith) (omega arith)

pub cost_sum-no_cost : (a : Cost) → cost_sum a no_cost ≡ a
cost_sum-no_cost a = same_costs _ _ (omega arith) (omega arith)

pub no_cost-cost_sum : (a : Cost) → cost_sum no_cost a ≡ a
no_cost-cost_sum a = same_costs _ _ (omega arith) (omega arith)

-- sums keep the order
pub IsAtMost-cost_sum : (a b c d : Cost) → IsAtMost a b → IsAtMost c d → IsAtMost (cost_sum a c) (cost_sum b d)
IsAtMost-cost_sum a b c d h k = (omega arith, λ tie. omega arith)

pub IsBelow-cost_sum_left : (a b c d : Cost) → IsBelow a b → IsAtMost c d → IsBelow (cost_sum a c) (cost_sum b d)
IsBelow-cost_sum_left a b c d h k = (omega arith, λ tie. omega arith)

pub IsBelow-cost_sum_right : (a b c d : Cost) → IsAtMost a b → IsBelow c d → IsBelow (cost_sum a c) (cost_sum b d)
IsBelow-cost_sum_right a b c d h k = (omega arith, λ tie. omega arith)

-- a part that both sums have cancels
pub cost_sum_cancel_right : (a b c : Cost) → IsAtMost (cost_sum a c) (cost_sum b c) → IsAtMost a b
cost_sum_cancel_right a b c h = (omega arith, λ tie. omega arith)

pub cost_sum_cancel_left : (a b c : Cost) → IsAtMost (cost_sum c a) (cost_sum c b) → IsAtMost a b
cost_sum_cancel_left a b c h = (omega arith, λ tie. omega (arith, h.1 (omega arith)))

-- adding a cost to another gives no less
pub IsAtMost-cost_sum_self : (a b : Cost) → IsAtMost a (cost_sum a b)
IsAtMost-cost_sum_self a b = (omega arith, λ tie. omega arith)
