-- Statements that are decided by a search in a list or below a number.
use Rattle.std.proofs.Common.{◌≡◌, ℕ, zero, suc, ◌<◌, List, [], ◌∷◌, Contains, refl, sym, ap, subst, arith, inl, inr}
use Rattle.std.specs.Prelude.{◌⊎◌}
use Rattle.std.proofs.lemmas.Bool.{cases_eq, cases_lt}
use Rattle.ch_graph.specs.declared.arc.InArc.{InArc}
use Rattle.ch_graph.specs.declared.cost.Cost.{Cost}
use Rattle.ch_graph.specs.Cost.{IsAtMost}
use Rattle.ch_graph.proofs.CostOrder.{same_costs, IsAtMost_or_IsBelow, IsBelow_not}
use Rattle.ch_graph.proofs.Lists.{contains_head, contains_tail, contains_cons, contains_none}

-- P holds, or P does not hold
abbrev pub Decided : Type 0 → Type 0
Decided P = P ⊎ (P → ⊥)

-- a decided statement holds if it cannot fail
pub so_if_decided : (P : Type 0) → Decided P → ((P → ⊥) → ⊥) → P
so_if_decided P (inl so) can = so
so_if_decided P (inr never) can = absurd (can never)

module _ (P Q : Type 0) where
  -- a statement is decided if an equivalent one is
  pub decided_same : (P → Q) → (Q → P) → Decided P → Decided Q
  decided_same to from (inl so) = inl (to so)
  decided_same to from (inr never) = inr (λ q. never (from q))

  -- the conjunction of two decided statements, where the second is used only if the first holds
  pub decided_both : Decided P → Decided Q → Decided (P × Q)
  decided_both (inl p) (inl q) = inl (p, q)
  decided_both (inl p) (inr never) = inr (λ h. never h.1)
  decided_both (inr never) q = inr (λ h. never h.0)

  -- the disjunction of two decided statements
  pub decided_either : Decided P → Decided Q → Decided (P ⊎ Q)
  decided_either (inl p) q = inl (inl p)
  decided_either (inr first) (inl q) = inl (inr q)
  decided_either (inr first) (inr second) = inr (λ h. elim h [ inl p ↦ first p | inr q ↦ second q ])

-- some element of the list has P
abbrev pub HasOne : {X : Type 0} → (X → Type 0) → List X → Type 0
HasOne {X} P xs = (x : X) × Contains xs x × P x

-- whether some element has P is decided
pub one_decided : {X : Type 0} (P : X → Type 0) → ((x : X) → Decided (P x)) → (xs : List X) → Decided (HasOne P xs)
one_decided P each [] = inr (λ h. contains_none h.0 h.1)
one_decided P each (x ∷ xs) = elim (each x) [
  | inl so ↦ inl (x, contains_head x xs, so)
  | inr not ↦ elim (one_decided P each xs) [
    | inl later ↦ inl (later.0, contains_tail later.0 x xs later.1, later.2)
    | inr never ↦ inr (λ h. elim (contains_cons x h.0 xs h.1) [ inl e ↦ not (subst P (sym e) h.2) | inr there ↦ never (h.0, there, h.2) ])
  ]
]

-- some number below n has P
abbrev pub HasBelow : (ℕ → Type 0) → ℕ → Type 0
HasBelow P n = (k : ℕ) × (k < n) × P k

-- whether some number below n has P is decided
pub below_decided : (P : ℕ → Type 0) → ((k : ℕ) → Decided (P k)) → (n : ℕ) → Decided (HasBelow P n)
below_decided P each zero = inr (λ h. let lt = h.1 in omega arith)
below_decided P each (suc n) = elim (each n) [
  | inl so ↦ inl (n, omega arith, so)
  | inr not ↦ elim (below_decided P each n) [
    | inl less ↦ inl (less.0, (let lt = less.1 in omega arith), less.2)
    | inr never ↦ inr (λ h. let lt = h.1 in elim (cases_lt h.0 n) [
      | inl less ↦ never (h.0, less, h.2)
      | inr ge ↦ (let same : h.0 ≡ n = omega arith in not (subst P same h.2))
    ])
  ]
]

-- whether two arcs are equal is decided
pub same_arc_decided : (a b : InArc) → Decided (a ≡ b)
same_arc_decided a b = elim (cases_eq a.from b.from) [
  | inl from ↦ elim (cases_eq a.to b.to) [
    | inl to ↦ elim (cases_eq a.weight b.weight) [
      | inl weight ↦ inl (λ i. record { from = from i; to = to i; weight = weight i })
      | inr ne ↦ inr (λ e. ne (ap (λ (x : InArc). x.weight) e))
    ]
    | inr ne ↦ inr (λ e. ne (ap (λ (x : InArc). x.to) e))
  ]
  | inr ne ↦ inr (λ e. ne (ap (λ (x : InArc). x.from) e))
]

-- whether an arc is in the list is decided
pub contains_arc_decided : (arcs : List InArc) (a : InArc) → Decided (Contains arcs a)
contains_arc_decided arcs a = decided_same (HasOne (λ x. x ≡ a) arcs) (Contains arcs a) (λ h. subst (Contains arcs) h.2 h.1)
    (λ h. (a, h, refl)) (one_decided (λ x. x ≡ a) (λ x. same_arc_decided x a) arcs)

-- whether two costs are equal is decided
pub same_cost_decided : (a b : Cost) → Decided (a ≡ b)
same_cost_decided a b = elim (cases_eq a.weight b.weight) [
  | inl weight ↦ elim (cases_eq a.arcs b.arcs) [
    | inl arcs ↦ inl (same_costs a b weight arcs)
    | inr ne ↦ inr (λ e. ne (ap (λ (x : Cost). x.arcs) e))
  ]
  | inr ne ↦ inr (λ e. ne (ap (λ (x : Cost). x.weight) e))
]

-- whether a cost is at most another is decided
pub at_most_decided : (a b : Cost) → Decided (IsAtMost a b)
at_most_decided a b = elim (IsAtMost_or_IsBelow a b) [ inl le ↦ inl le | inr below ↦ inr (IsBelow_not b a below) ]
