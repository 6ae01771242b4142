-- The levels that an order gives.
use Rattle.std.proofs.Common.{◌≡◌, ℕ, ◌+◌, ◌<◌, ◌≤◌, ◌⊎◌, List, [], length, get_or, Contains, sym, ◌∙◌, ap, subst, arith, inl, inr}
use Rattle.std.specs.Prelude.{◌≢◌, All, AllPairs, slice_index}
use Rattle.std.proofs.lemmas.List.{ext_get_or, get_or_default, get_or_past}
use Rattle.std.proofs.lemmas.Bool.{cases_eq, cases_lt}
use Rattle.ch_hierarchy.specs.declared.leg.Leg.{Leg}
use Rattle.ch_hierarchy.specs.Rows.{row}
use Rattle.ch_hierarchy.specs.Saved.{IsOrderOf, AreLevelsOf}
use Rattle.ch_hierarchy.proofs.theory.Ordered.{every_number}

module _ (n : ℕ) (order levels : List ℕ) (is : IsOrderOf n order) (are : AreLevelsOf order levels) where
  -- each node has a place in the order
  place : (v : ℕ) → v < n → (i : ℕ) × (i < n) × (slice_index order i ≡ v)
  place v lt =
      let has = every_number order n v is.count (λ i d less. subst (λ q. q < n) (get_or_default order i 0 d less) (is.within i less))
      (λ i j d less within e. is.distinct i j less within
      (sym (get_or_default order i d 0 (omega arith)) ∙ e ∙ get_or_default order j d 0 within)) lt in
      (has.0, (let a = has.1 in let b = is.count in omega arith), sym (get_or_default order has.0 v 0 has.1) ∙ has.2)

  -- the level of a node is one more than its place in the order
  pub level_of : (v : ℕ) → v < n → (i : ℕ) × (i < n) × (slice_index order i ≡ v) × (slice_index levels v ≡ i + 1)
  level_of v lt = let p = place v lt in
      (p.0, p.1, p.2, ap (slice_index levels) (sym p.2) ∙ are.each p.0 (let a = p.1 in let b = is.count in omega arith))

  pub sized : length levels ≡ n
  sized = are.count ∙ is.count

  pub levels_are : All (λ l. (1 ≤ l) × (l ≤ length levels)) levels × AllPairs ◌≢◌ levels
  levels_are = (
    λ v d lt.
        let s = sized in
        let l = level_of v (omega arith) in
        let e : get_or levels v d ≡ l.0 + 1 = get_or_default levels v d 0 lt ∙ l.3 in
        let less = l.1 in
        (omega arith, omega arith),
    λ v w d less lt same.
        let s = sized in
        let a = level_of v (omega arith) in
        let b = level_of w (omega arith) in
        let x : get_or levels v d ≡ a.0 + 1 = get_or_default levels v d 0 (omega arith) ∙ a.3 in
        let y : get_or levels w d ≡ b.0 + 1 = get_or_default levels w d 0 lt ∙ b.3 in
        let one : a.0 ≡ b.0 = omega arith in
        let z : v ≡ w = sym a.2 ∙ ap (slice_index order) one ∙ b.2 in
        omega arith,
  )

  -- of two different nodes one is higher
  pub one_is_higher : (u w : ℕ) → u < n → w < n → (u ≡ w → ⊥) →
      (slice_index levels u < slice_index levels w) ⊎ (slice_index levels w < slice_index levels u)
  one_is_higher u w low high ne =
      let a = level_of u low in
      let b = level_of w high in
      let x = a.3 in
      let y = b.3 in
      elim (cases_lt a.0 b.0) [
        | inl less ↦ inl (omega arith)
        | inr ge ↦ elim (cases_eq a.0 b.0) [
          | inl same ↦ absurd (ne (sym a.2 ∙ ap (slice_index order) same ∙ b.2))
          | inr apart ↦ inr (omega arith)
        ]
      ]

-- if the levels are those of the order, the order has each node once
pub order_of : (order levels : List ℕ) → AreLevelsOf order levels → IsOrderOf (length levels) order
order_of order levels are = record {
  count = sym are.count;
  within = λ i lt. elim (cases_lt (slice_index order i) (length levels)) [
    | inl less ↦ less
    | inr ge ↦ (let z = get_or_past levels (slice_index order i) 0 ge in let e = are.each i lt in absurd (omega arith))
  ];
  distinct = λ i j less lt same.
      (let a = are.each i (omega arith) in let b = are.each j lt in let e = ap (slice_index levels) same in omega arith);
}

-- one order gives one list of levels
pub levels_same : (order xs ys : List ℕ) → AreLevelsOf order xs → AreLevelsOf order ys → xs ≡ ys
levels_same order xs ys a b = ext_get_or 0 xs ys (a.count ∙ sym b.count) (λ v lt.
    let l = level_of (length xs) order xs (order_of order xs a) a v lt in
    l.3 ∙ sym (b.each l.0 (let x = l.1 in let c = a.count in omega arith)) ∙ ap (slice_index ys) l.2)

-- a row past the last is empty
pub in_row_below : (rows : List (List Leg)) (n v : ℕ) (l : Leg) → length rows ≡ n → Contains (row rows v) l → v < n
in_row_below rows n v l size h = elim (cases_lt v n) [
  | inl lt ↦ lt
  | inr ge ↦
      let none = subst (λ q. Contains q l) (get_or_past rows v [] (omega arith)) h in
      absurd (let lt = none.1 in omega arith)
]
