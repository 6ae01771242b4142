-- A list of numbers that is filled from its first place on.
use Rattle.std.proofs.Common.{ℕ, ◌+◌, ◌<◌, List, length, get_or, set, inl, inr, sym, subst, arith}
use Rattle.std.proofs.lemmas.List.{get_or-set_same, get_or-set_other}
use Rattle.std.proofs.lemmas.Bool.{cases_order}

-- a property of the numbers before place i, and of the number written at i, holds up to place i
pub one_more : (P : ℕ → ℕ → Type 0) (out : List ℕ) (i word : ℕ) → i < length out → ((k : ℕ) → k < i → P k (get_or out k 0)) →
    P i word → (k : ℕ) → k < i + 1 →
    P k (get_or (set out i word) k 0)
one_more P out i word inside before here k low = elim (cases_order k i) [
  | inl same ↦ subst (λ (j : ℕ). P j (get_or (set out i word) j 0)) (sym same)
      (subst (P i) (sym (get_or-set_same out i word 0 inside)) here)
  | inr (inl less) ↦ subst (P k) (sym (get_or-set_other out i k word 0 (λ same. omega arith))) (before k less)
  | inr (inr more) ↦ absurd (omega arith)
]
