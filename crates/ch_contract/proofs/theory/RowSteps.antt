-- The levels and the rows of the contracted nodes, as an order of contraction grows.
use Rattle.std.proofs.Common.{◌≡◌, ℕ, ◌+◌, ◌<◌, List, [], ◌∷◌, ◌++◌, length, sym, ◌∙◌, ap, subst, arith, inl, inr, Contains}
use Rattle.std.proofs.Common.{get_or-set_same, get_or-set_other}
use Rattle.std.specs.Prelude.{◌≢◌, slice_index, slice_set}
use Rattle.std.proofs.lemmas.Bool.{cases_eq}
use Rattle.std.proofs.lemmas.List.{length_push}
use Rattle.std.proofs.lemmas.List.Elements.{Contains-get_or}
use Rattle.ch_hierarchy.specs.declared.leg.Leg.{Leg}
use Rattle.ch_contract.specs.Legs.{Legs}
use Rattle.ch_contract.specs.Begun.{AreLevels, AreRowsBy}
use Rattle.ch_contract.proofs.theory.OrderSteps.{then_legs, more, legs_more, before, here, agree, now}

module _ (order : List ℕ) (v : ℕ) (left : Contains order v → ⊥) where
  -- the next node is none of the earlier ones
  apart : (i : ℕ) → i < length order → slice_index order i ≢ v
  apart i lt e = left (subst (Contains order) e (Contains-get_or order i 0 lt))

  -- the levels after one more node gets its level
  pub levels_more : (L : ℕ → Legs) (M : Legs) (levels after : List ℕ) → v < length levels → after ≡ slice_set levels v (length order + 1) →
      AreLevels order levels → AreLevels (order ++ v ∷ []) after
  levels_more L M levels after within e are i lt = elim (cases_eq i (length order)) [
    | inl last ↦ subst (λ z. slice_index after (slice_index (more order L v M) z) ≡ z + 1) (sym last)
        (ap (slice_index after) (here order L v M) ∙ ap (λ l. slice_index l v) e ∙ get_or-set_same levels v (length order + 1) 0 within)
    | inr ne ↦
        let size = length_push order v in
        let below : i < length order = omega arith in
        ap (slice_index after) (sym (before order L v M i below)) ∙ ap (λ l. slice_index l (slice_index order i)) e
        ∙ get_or-set_other levels v (slice_index order i) (length order + 1) 0 (apart i below) ∙ are i below
  ]

  -- the rows after one more node gets its row
  pub rows_more : (R : Legs → ℕ → List Leg → Type 0) (L : ℕ → Legs) (M : Legs) (rows after : ℕ → List Leg) →
      R (L (length order)) v (after v) → ((x : ℕ) → x ≢ v → after x ≡ rows x) → AreRowsBy R order L rows →
      AreRowsBy R (order ++ v ∷ []) (then_legs (length order) L M) after
  rows_more R L M rows after is same are i lt = elim (cases_eq i (length order)) [
    | inl last ↦
        let two = subst (λ (N : Legs). R N v (after v)) (sym (now order L v M)) is in
        subst (λ z. R (legs_more order L v M z) (slice_index (more order L v M) z) (after (slice_index (more order L v M) z)))
        (sym last) (subst (λ z. R (legs_more order L v M (length order)) z (after z)) (sym (here order L v M)) two)
    | inr ne ↦
        let size = length_push order v in
        let below : i < length order = omega arith in
        let one = subst (R (L i) (slice_index order i)) (sym (same (slice_index order i) (apart i below))) (are i below) in
        let two = subst (λ (N : Legs). R N (slice_index order i) (after (slice_index order i)))
        ((agree order L v M).legs i (omega arith)) one in
        subst (λ z. R (legs_more order L v M i) z (after z)) (before order L v M i below) two
  ]
