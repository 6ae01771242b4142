-- Laws of costs: they have a total order, sums keep it, and comparing two costs gives it.
use Rattle.std.specs.Prelude.{◌≡◌, ◌⊎◌, ◌↔◌, IsTrue}
use Rattle.std.specs.Ordering.{is_eq, is_le, is_lt, ord_min}
use Rattle.ch_graph.specs.declared.cost.Cost.{Cost}
use Rattle.ch_graph.specs.Cost.{IsAtMost, IsBelow, cost_cmp, cost_sum, no_cost}

-- costs have a total order, and `IsBelow` is its strict part
pub record CostsAreOrdered : Type 0 where
  pub reflexive : (a : Cost) → IsAtMost a a
  pub transitive : (a b c : Cost) → IsAtMost a b → IsAtMost b c → IsAtMost a c
  pub antisymmetric : (a b : Cost) → IsAtMost a b → IsAtMost b a → a ≡ b
  pub total : (a b : Cost) → IsAtMost a b ⊎ IsBelow b a
  pub strict : (a b : Cost) → IsBelow a b → IsAtMost b a → ⊥
  pub least : (a : Cost) → IsAtMost no_cost a

-- costs add up as numbers do
pub record CostsAdd : Type 0 where
  pub associative : (a b c : Cost) → cost_sum (cost_sum a b) c ≡ cost_sum a (cost_sum b c)
  pub commutative : (a b : Cost) → cost_sum a b ≡ cost_sum b a
  pub neutral : (a : Cost) → cost_sum a no_cost ≡ a
  pub monotone : (a b c d : Cost) → IsAtMost a b → IsAtMost c d → IsAtMost (cost_sum a c) (cost_sum b d)
  pub strict : (a b c d : Cost) → IsBelow a b → IsAtMost c d → IsBelow (cost_sum a c) (cost_sum b d)
  pub cancelling : (a b c : Cost) → IsAtMost (cost_sum a c) (cost_sum b c) → IsAtMost a b

-- comparing two costs gives their order
pub record ComparingTellsOrder : Type 0 where
  pub at_most : (a b : Cost) → IsTrue (is_le (cost_cmp a b)) ↔ IsAtMost a b
  pub below : (a b : Cost) → IsTrue (is_lt (cost_cmp a b)) ↔ IsBelow a b
  pub equal : (a b : Cost) → IsTrue (is_eq (cost_cmp a b)) ↔ (a ≡ b)
  pub lesser : (a b : Cost) → IsAtMost (ord_min cost_cmp a b) a × IsAtMost (ord_min cost_cmp a b) b
