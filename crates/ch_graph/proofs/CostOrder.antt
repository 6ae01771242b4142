-- The order of costs, and the result of comparing two costs.
use Rattle.std.proofs.Common.{◌≡◌, ◌<◌, false, arith, refl, subst, inl, inr, ◌⊎◌, ◌↔◌, IsTrue}
use Rattle.std.proofs.lemmas.Bool.{cases_lt, cond_both}
use Rattle.std.proofs.lemmas.Cmp.{ranked}
use Rattle.std.specs.Ordering.{is_eq, is_le, is_lt, ord_min, ordering_then, MatchOrdering}
use Rattle.std.specs.declared.cmp.Ordering.{Ordering}
use Rattle.std.specs.declared.cmp.Ordering.TheVariants.{Less, Equal, Greater}
use Rattle.ch_graph.specs.declared.cost.Cost.{Cost}
use Rattle.ch_graph.specs.Cost.{IsAtMost, IsBelow, cost_cmp, no_cost}

-- costs with equal parts are equal
pub same_costs : (a b : Cost) → a.weight ≡ b.weight → a.arcs ≡ b.arcs → a ≡ b
same_costs a b weight arcs = λ i. record { weight = weight i; arcs = arcs i }

-- the order of costs is total
pub IsAtMost_refl : (a : Cost) → IsAtMost a a
IsAtMost_refl a = (omega arith, λ tie. omega arith)

pub IsAtMost_trans : (a b c : Cost) → IsAtMost a b → IsAtMost b c → IsAtMost a c
IsAtMost_trans a b c h k = (omega arith, λ tie. omega arith)

pub IsAtMost_antisymm : (a b : Cost) → IsAtMost a b → IsAtMost b a → a ≡ b
IsAtMost_antisymm a b h k = same_costs a b (omega arith) (omega arith)

pub IsAtMost_or_IsBelow : (a b : Cost) → IsAtMost a b ⊎ IsBelow b a
IsAtMost_or_IsBelow a b = elim (cases_lt a.weight b.weight) [
  | inl lighter ↦ inl (omega arith, λ tie. omega arith)
  | inr no_lighter ↦ elim (cases_lt b.weight a.weight) [
    | inl heavier ↦ inr (omega arith, λ tie. omega arith)
    | inr same ↦ elim (cases_lt b.arcs a.arcs) [
      | inl more ↦ inr (omega arith, λ tie. omega arith)
      | inr no_more ↦ inl (omega arith, λ tie. omega arith)
    ]
  ]
]

-- being below implies being at most
pub IsBelow-IsAtMost : (a b : Cost) → IsBelow a b → IsAtMost a b
IsBelow-IsAtMost a b h = (omega arith, λ tie. omega arith)

pub IsBelow_not : (a b : Cost) → IsBelow a b → IsAtMost b a → ⊥
IsBelow_not a b h k = let fewer = h.1 k.0 in let no_fewer = k.1 h.0 in omega arith

-- the empty walk costs least
pub IsAtMost-no_cost : (a : Cost) → IsAtMost no_cost a
IsAtMost-no_cost a = (omega arith, λ tie. omega arith)

-- the order of two costs, from the order of their weights and the order of their numbers of arcs
tells : (a b : Cost) (w n : Ordering) → MatchOrdering w (a.weight < b.weight) (a.weight ≡ b.weight) (b.weight < a.weight) →
    MatchOrdering n (a.arcs < b.arcs) (a.arcs ≡ b.arcs) (b.arcs < a.arcs) →
    MatchOrdering (ordering_then w n) (IsBelow a b) (a ≡ b) (IsBelow b a)
tells a b Less n weights arcs = (omega arith, λ tie. omega arith)
tells a b Equal Less weights arcs = (omega arith, λ tie. omega arith)
tells a b Equal Equal weights arcs = same_costs a b weights arcs
tells a b Equal Greater weights arcs = (omega arith, λ tie. omega arith)
tells a b Greater n weights arcs = (omega arith, λ tie. omega arith)

-- comparing two costs says which is below the other
pub cost_cmp_tells : (a b : Cost) → MatchOrdering (cost_cmp a b) (IsBelow a b) (a ≡ b) (IsBelow b a)
cost_cmp_tells a b = tells a b _ _ (ranked a.weight b.weight _ refl) (ranked a.arcs b.arcs _ refl)

module _ (a b : Cost) where
  -- what each result of the comparison means for `<=`
  at_most_by : (o : Ordering) → MatchOrdering o (IsBelow a b) (a ≡ b) (IsBelow b a) → IsTrue (is_le o) ↔ IsAtMost a b
  at_most_by Less h = (λ _. IsBelow-IsAtMost a b h, λ _. refl)
  at_most_by Equal h = (λ _. subst (IsAtMost a) h (IsAtMost_refl a), λ _. refl)
  at_most_by Greater h = (λ e. cc, λ k. absurd (IsBelow_not b a h k))

  pub is_le-cost_cmp : IsTrue (is_le (cost_cmp a b)) ↔ IsAtMost a b
  is_le-cost_cmp = at_most_by (cost_cmp a b) (cost_cmp_tells a b)

  -- what each result of the comparison means for `<`
  below_by : (o : Ordering) → MatchOrdering o (IsBelow a b) (a ≡ b) (IsBelow b a) → IsTrue (is_lt o) ↔ IsBelow a b
  below_by Less h = (λ _. h, λ _. refl)
  below_by Equal h = (λ e. cc, λ k. absurd (IsBelow_not a b k (subst (λ c. IsAtMost c a) h (IsAtMost_refl a))))
  below_by Greater h = (λ e. cc, λ k. absurd (IsBelow_not b a h (IsBelow-IsAtMost a b k)))

  pub is_lt-cost_cmp : IsTrue (is_lt (cost_cmp a b)) ↔ IsBelow a b
  is_lt-cost_cmp = below_by (cost_cmp a b) (cost_cmp_tells a b)

  -- what each result of the comparison means for `==`
  equal_by : (o : Ordering) → MatchOrdering o (IsBelow a b) (a ≡ b) (IsBelow b a) → IsTrue (is_eq o) ↔ (a ≡ b)
  equal_by Less h = (λ e. cc, λ k. absurd (IsBelow_not a b h (subst (λ c. IsAtMost c a) k (IsAtMost_refl a))))
  equal_by Equal h = (λ _. h, λ _. refl)
  equal_by Greater h = (λ e. cc, λ k. absurd (IsBelow_not b a h (subst (IsAtMost a) k (IsAtMost_refl a))))

  pub is_eq-cost_cmp : IsTrue (is_eq (cost_cmp a b)) ↔ (a ≡ b)
  is_eq-cost_cmp = equal_by (cost_cmp a b) (cost_cmp_tells a b)

-- if b is not below a, a is at most b
not_below : (a b : Cost) → is_lt (cost_cmp b a) ≡ false → IsAtMost a b
not_below a b e = elim (IsAtMost_or_IsBelow a b) [
  | inl at_most ↦ at_most
  | inr below ↦ let less = (is_lt-cost_cmp b a).1 below in cc
]

-- the lesser of two costs is at most each of them
pub ord_min-cost_cmp : (a b : Cost) → IsAtMost (ord_min cost_cmp a b) a × IsAtMost (ord_min cost_cmp a b) b
ord_min-cost_cmp a b = cond_both (is_lt (cost_cmp b a)) b a (λ c. IsAtMost c a × IsAtMost c b)
    (λ e. (IsBelow-IsAtMost b a ((is_lt-cost_cmp b a).0 e), IsAtMost_refl b))
    (λ e. (IsAtMost_refl a, not_below a b e))
