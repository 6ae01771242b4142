-- If an upward path reaches a node, one of least cost reaches it.
use Rattle.std.proofs.Common.{◌≡◌, ℕ, zero, suc, ◌≤◌, ◌⊎◌, inl, inr, List, [], ◌∷◌, length, Contains, refl, sym, subst, arith}
use Rattle.std.proofs.lemmas.Bool.{cases_eq}
use Rattle.ch_graph.specs.Cost.{IsAtMost, cost_sum}
use Rattle.ch_graph.proofs.CostOrder.{IsAtMost_refl, IsAtMost_trans, IsAtMost_or_IsBelow, IsBelow-IsAtMost, IsAtMost-no_cost}
use Rattle.ch_graph.proofs.CostSums.{IsAtMost-cost_sum}
use Rattle.ch_hierarchy.specs.declared.leg.Leg.{Leg}
use Rattle.ch_hierarchy.specs.Rows.{row}
use Rattle.ch_hierarchy.specs.Paths.{IsUpwardPath, path_cost}
use Rattle.ch_hierarchy.proofs.theory.LegPaths.{path_cost-cons}
use Rattle.ch_graph.proofs.Lists.{contains_head, contains_tail, contains_cons, contains_none}

-- the same leg in front of two paths keeps their order
leg_before : (l : Leg) (xs ys : List Leg) → IsAtMost (path_cost xs) (path_cost ys) → IsAtMost (path_cost (l ∷ xs)) (path_cost (l ∷ ys))
leg_before l xs ys le =
    subst (λ q. IsAtMost q (path_cost (l ∷ ys))) (sym (path_cost-cons l xs))
    (subst (λ q. IsAtMost (cost_sum l.cost (path_cost xs)) q) (sym (path_cost-cons l ys))
    (IsAtMost-cost_sum l.cost l.cost (path_cost xs) (path_cost ys) (IsAtMost_refl l.cost) le))

-- no path costs less than the empty path
none_before : (ks : List Leg) → IsAtMost (path_cost []) (path_cost ks)
none_before ks = IsAtMost-no_cost (path_cost ks)

module _ (rows : List (List Leg)) (m : ℕ) where
  -- there is a path from a to m, and no other costs less
  abbrev pub HasLeast : ℕ → Type 0
  HasLeast a = (legs : List Leg) × IsUpwardPath rows a m legs
      × ((ks : List Leg) → IsUpwardPath rows a m ks → IsAtMost (path_cost legs) (path_cost ks))

  -- there is such a path, or there is no path
  abbrev pub IsDecided : ℕ → Type 0
  IsDecided a = HasLeast a ⊎ ((ks : List Leg) → IsUpwardPath rows a m ks → ⊥)

  -- a path begins with one of these legs
  abbrev Begins : List Leg → Leg → List Leg → Type 0
  Begins some l ks = Contains some l × IsUpwardPath rows l.node m ks

  -- there is such a path that costs no more than any other
  abbrev HasLeastOf : List Leg → Type 0
  HasLeastOf some = (l : Leg) × (legs : List Leg) × Begins some l legs
      × ((k : Leg) (ks : List Leg) → Begins some k ks → IsAtMost (path_cost (l ∷ legs)) (path_cost (k ∷ ks)))

  -- there is such a least path, or there is no such path
  abbrev IsDecidedOf : List Leg → Type 0
  IsDecidedOf some = HasLeastOf some ⊎ ((k : Leg) (ks : List Leg) → Begins some k ks → ⊥)

  -- a least path after l, with l in front, costs no more than any path that begins with l
  with_first : (l k : Leg) (here : HasLeast l.node) (ks : List Leg) → l ≡ k → IsUpwardPath rows k.node m ks →
      IsAtMost (path_cost (l ∷ here.0)) (path_cost (k ∷ ks))
  with_first l k here ks same path = subst (λ q. IsAtMost (path_cost (l ∷ here.0)) (path_cost (q ∷ ks))) same
      (leg_before l here.0 ks (here.2 ks (subst (λ (q : Leg). IsUpwardPath rows q.node m ks) (sym same) path)))

  -- the case of one more leg
  one_more : (l : Leg) (some : List Leg) → IsDecided l.node → IsDecidedOf some → IsDecidedOf (l ∷ some)
  one_more l some (inl here) (inl there) = elim (IsAtMost_or_IsBelow (path_cost (l ∷ here.0)) (path_cost (there.0 ∷ there.1))) [
    | inl le ↦ inl (
      l,
      here.0,
      (contains_head l some, here.1),
      λ k ks b. elim (contains_cons l k some b.0) [
        | inl same ↦ with_first l k here ks same b.1
        | inr more ↦ IsAtMost_trans _ (path_cost (there.0 ∷ there.1)) _ le (there.3 k ks (more, b.1))
      ],
    )
    | inr below ↦ inl (
      there.0,
      there.1,
      (contains_tail there.0 l some there.2.0, there.2.1),
      λ k ks b. elim (contains_cons l k some b.0) [
        | inl same ↦ IsAtMost_trans _ (path_cost (l ∷ here.0)) _ (IsBelow-IsAtMost _ _ below) (with_first l k here ks same b.1)
        | inr more ↦ there.3 k ks (more, b.1)
      ],
    )
  ]
  one_more l some (inl here) (inr none) = inl (
    l,
    here.0,
    (contains_head l some, here.1),
    λ k ks b. elim (contains_cons l k some b.0) [
      | inl same ↦ with_first l k here ks same b.1
      | inr more ↦ absurd (none k ks (more, b.1))
    ],
  )
  one_more l some (inr never) (inl there) = inl (
    there.0,
    there.1,
    (contains_tail there.0 l some there.2.0, there.2.1),
    λ k ks b. elim (contains_cons l k some b.0) [
      | inl same ↦ absurd (never ks (subst (λ (q : Leg). IsUpwardPath rows q.node m ks) (sym same) b.1))
      | inr more ↦ there.3 k ks (more, b.1)
    ],
  )
  one_more l some (inr never) (inr none) = inr (λ k ks b. elim (contains_cons l k some b.0) [
    | inl same ↦ never ks (subst (λ (q : Leg). IsUpwardPath rows q.node m ks) (sym same) b.1)
    | inr more ↦ none k ks (more, b.1)
  ])

  -- it is decided for these legs if it is decided at the end of each
  each : (some : List Leg) → ((l : Leg) → Contains some l → IsDecided l.node) → IsDecidedOf some
  each [] decided = inr (λ k ks b. contains_none k b.0)
  each (l ∷ some) decided = one_more l some (decided l (contains_head l some)) (each some (λ k h. decided k (contains_tail k l some h)))

  -- no path from a has more than k legs
  abbrev pub IsShort : ℕ → ℕ → Type 0
  IsShort k a = (b : ℕ) (legs : List Leg) → IsUpwardPath rows a b legs → length legs ≤ k

  -- from the paths that begin with a leg of a to all paths from a
  from_legs : (a : ℕ) → (a ≡ m → ⊥) → IsDecidedOf (row rows a) → IsDecided a
  from_legs a ne (inl least) = inl (least.0 ∷ least.1, least.2, λ ks p. at ks p)
    where
      at : (ks : List Leg) → IsUpwardPath rows a m ks → IsAtMost (path_cost (least.0 ∷ least.1)) (path_cost ks)
      at [] p = absurd (ne p)
      at (k ∷ ks) p = least.3 k ks p
  from_legs a ne (inr none) = inr (λ ks p. at ks p)
    where
      at : (ks : List Leg) → IsUpwardPath rows a m ks → ⊥
      at [] p = ne p
      at (k ∷ ks) p = none k ks p

  -- the empty path is least, or a least path begins with a leg of a
  by_legs : (a : ℕ) → ((l : Leg) → Contains (row rows a) l → IsDecided l.node) → IsDecided a
  by_legs a next = elim (cases_eq a m) [
    | inl here ↦ inl ([], here, λ ks p. none_before ks)
    | inr ne ↦ from_legs a ne (each (row rows a) next)
  ]

  -- there is a least path from a, or there is no path
  pub decided : (k a : ℕ) → IsShort k a → IsDecided a
  decided zero a short = by_legs a (λ l h. absurd (let e = short l.node (l ∷ []) (h, refl) in omega arith))
  decided (suc k) a short = by_legs a (λ l h. decided k l.node (λ b legs p. let e = short b (l ∷ legs) (h, p) in omega arith))
