-- The given nodes of an order, and the others.
use Rattle.std.proofs.Common.{◌≡◌, ℕ, ◌+◌, ◌<◌, List, ◌++◌, length, get_or, length-append, subst, sym, ◌∙◌, ap, arith, inl, inr, Contains}
use Rattle.std.specs.Prelude.{◌≢◌, All, AllPairs}
use Rattle.std.proofs.lemmas.List.{get_or_append_left, get_or-append-add, get_or_default}
use Rattle.std.proofs.lemmas.List.Elements.{Contains-append_cases}
use Rattle.std.proofs.lemmas.List.FromFn.{length-range_with_len, get_or-range_with_len}
use Rattle.std.specs.List.{range_with_len}
use Rattle.ch_hierarchy.specs.Saved.{IsOrderOf}
use Rattle.ch_hierarchy.proofs.theory.Ordered.{every_number}

-- an order has as many nodes as there are, all are below n, and they differ
pub order_nodes : (n : ℕ) (order : List ℕ) → IsOrderOf n order → (length order ≡ n) × All (λ v. v < n) order × AllPairs ◌≢◌ order
order_nodes n order is = (
  is.count,
  (λ k d lt. omega (arith, is.within k lt, get_or_default order k d 0 lt)),
  λ i j d lt inside e. is.distinct i j lt inside (sym (get_or_default order i d 0 (omega arith)) ∙ e ∙ get_or_default order j d 0 inside),
)

module _ (given others : List ℕ) (n : ℕ) (is : IsOrderOf n (given ++ others)) where
  -- the others are nodes
  pub other_nodes : All (λ v. v < n) others
  other_nodes k d lt =
      let size = length-append given others in
      let nodes = order_nodes n (given ++ others) is in
      subst (λ z. z < n) (get_or-append-add given others k d) (nodes.1 (length given + k) d (omega arith))

  -- a node that is not given is one of the others
  pub all_others : (x : ℕ) → x < n → (Contains given x → ⊥) → Contains others x
  all_others x lt away =
      let nodes = order_nodes n (given ++ others) is in
      elim (Contains-append_cases given others x (every_number (given ++ others) n x nodes.0 nodes.1 nodes.2 lt)) [
        | inl has ↦ absurd (away has)
        | inr has ↦ has
      ]

  -- a given node is none of the others
  pub no_other : (x : ℕ) → Contains given x → Contains others x → ⊥
  no_other x a b =
      let size = length-append given others in
      let inside = a.1 in
      let lt = b.1 in
      let mine = get_or_append_left given others x a.0 inside ∙ a.2 in
      let its = get_or-append-add given others b.0 x ∙ b.2 in
      (order_nodes n (given ++ others) is).2 a.0 (length given + b.0) x (omega arith) (omega arith) (mine ∙ sym its)

-- the numbers below n are an order
numbers_order : (n : ℕ) → IsOrderOf n (range_with_len 0 n)
numbers_order n =
    let size = length-range_with_len 0 n in
    let at : (i : ℕ) → i < length (range_with_len 0 n) →
    get_or (range_with_len 0 n) i 0 ≡ 0 + i = λ i lt. get_or-range_with_len 0 n i 0 (omega arith) in
    record {
      count = size;
      within = λ i lt. omega (arith, at i lt);
      distinct = λ i j before lt e. omega (arith, at i (omega arith), at j lt, e);
    }

-- a lent list of the numbers below n is an order
pub numbers_given : (n count : ℕ) (items lent : List ℕ) → lent ≡ items → items ≡ range_with_len 0 count → count ≡ n → IsOrderOf n lent
numbers_given n count items lent a b e = subst (IsOrderOf n) (sym (a ∙ b ∙ ap (range_with_len 0) e)) (numbers_order n)
