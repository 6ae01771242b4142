-- The levels that the order of a saved hierarchy gives.
use Rattle.std.proofs.Common.{◌≡◌, ℕ, ◌+◌, ◌<◌, ◌≤◌, List, length, sym, ◌∙◌, ap, subst, arith, get_or, set, length-set}
use Rattle.std.proofs.Common.{get_or-set_same, get_or-set_other, inl, inr}
use Rattle.std.proofs.lemmas.Bool.{cases_eq, cases_lt}
use Rattle.ch_hierarchy.specs.Saved.{IsOrderOf, AreLevelsOf}

-- the first i nodes of the order have their levels, and no other node has one
pub record HasLevels (n : ℕ) (order levels : List ℕ) (i : ℕ) : Type 0 where
  pub size : length levels ≡ n
  pub within : (j : ℕ) → j < i → get_or order j 0 < n
  pub each : (j : ℕ) → j < i → get_or levels (get_or order j 0) 0 ≡ j + 1
  pub marked : (v : ℕ) → 0 < get_or levels v 0 → (j : ℕ) × (j < i) × (get_or order j 0 ≡ v)

-- one more node gets its level
pub one_level : (n : ℕ) (order levels : List ℕ) (i : ℕ) → HasLevels n order levels i → get_or order i 0 < n →
    get_or levels (get_or order i 0) 0 ≡ 0 →
    HasLevels n order (set levels (get_or order i 0) (i + 1)) (i + 1)
one_level n order levels i h lt free =
    let v = get_or order i 0 in
    let here : get_or (set levels v (i + 1)) v 0 ≡ i + 1 = get_or-set_same levels v (i + 1) 0 (subst (λ k. v < k) (sym h.size) lt) in
    record {
      size = length-set levels v (i + 1) ∙ h.size;
      within = λ j less. elim (cases_lt j i) [
        | inl before ↦ h.within j before
        | inr ge ↦
            (let same : i ≡ j = omega arith in subst (λ k. get_or order k 0 < n) same lt)
      ];
      each = λ j less. elim (cases_lt j i) [
        | inl before ↦ elim (cases_eq (get_or order j 0) v) [
          | inl same ↦ absurd (let e = h.each j before in let f = ap (λ k. get_or levels k 0) same in omega arith)
          | inr ne ↦ get_or-set_other levels v (get_or order j 0) (i + 1) 0 ne ∙ h.each j before
        ]
        | inr ge ↦ (let same : i ≡ j = omega arith in subst (λ k. get_or (set levels v (i + 1)) (get_or order k 0) 0 ≡ k + 1) same here)
      ];
      marked = λ x some. elim (cases_eq x v) [
        | inl same ↦ (i, omega arith, sym same)
        | inr ne ↦
            let m = h.marked x (subst (λ k. 0 < k) (get_or-set_other levels v x (i + 1) 0 ne) some) in
            (m.0, (let less = m.1 in omega arith), m.2)
      ];
    }

-- if the next node already has a level, it came before in the order, so the order has it twice
pub came_before : (n : ℕ) (order levels : List ℕ) (i : ℕ) → HasLevels n order levels i → i < length order →
    (get_or levels (get_or order i 0) 0 ≡ 0 → ⊥) → IsOrderOf n order → ⊥
came_before n order levels i h lt taken is =
    let m = h.marked (get_or order i 0) (omega (arith, pos (get_or levels (get_or order i 0) 0) taken)) in
    is.distinct m.0 i m.1 lt m.2
  where
    pos : (k : ℕ) → (k ≡ 0 → ⊥) → 0 < k
    pos k ne = elim (cases_eq k 0) [ inl z ↦ absurd (ne z) | inr _ ↦ elim (cases_lt 0 k) [ inl p ↦ p | inr q ↦ absurd (ne (omega arith)) ] ]

-- at the end all nodes have levels
pub all_levels : (n : ℕ) (order levels : List ℕ) (i : ℕ) → HasLevels n order levels i → length order ≡ n → length order ≤ i →
    IsOrderOf n order × AreLevelsOf order levels
all_levels n order levels i h count end = (
  record {
    count = count;
    within = λ j lt. h.within j (omega arith);
    distinct = λ j k less lt same. let a = h.each j (omega arith) in let b = h.each k (omega arith) in
        let e = ap (λ x. get_or levels x 0) same in omega arith;
  },
  record { count = h.size ∙ sym count; each = λ j lt. h.each j (omega arith) },
)
