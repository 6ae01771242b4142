-- Near rows in arrays, one after the other.
use Rattle.std.proofs.Common.{◌≡◌, ℕ, zero, suc, ◌+◌, ◌<◌, ◌≤◌, List, length, get_or, set, inl, inr, refl, sym, ◌∙◌, subst, arith}
use Rattle.std.proofs.lemmas.List.{get_or-set_same, get_or-set_other}
use Rattle.std.proofs.lemmas.Bool.{cases_order}
use Rattle.ch_engine.specs.Held.{Held}
use Rattle.ch_engine.specs.NearRows.{AreRowsAt, IsKeptRow, IsRowAt, StandsAt, StaysFrom, begin_of}

-- the arrays agree before a place
abbrev pub Agree : ℕ → List ℕ → List ℕ → List ℕ → List ℕ → Type 0
Agree at weights places weights' places' =
    (k : ℕ) → k < at → (get_or weights' k 0 ≡ get_or weights k 0) × (get_or places' k 0 ≡ get_or places k 0)

-- what stays as before from a place on, and again from a later one on, stays from there on
pub stays_more : (before now after : List ℕ) (n m : ℕ) → StaysFrom n before now → n ≤ m → StaysFrom m now after → StaysFrom m before after
stays_more before now after n m old le new k from = new k from ∙ old k (omega (arith, le, from))

-- one more place is written
pub set_stays : (before ends : List ℕ) (i end : ℕ) → StaysFrom i before ends → StaysFrom (i + 1) before (set ends i end)
set_stays before ends i end old k from = get_or-set_other ends i k end 0 (λ same. omega arith) ∙ old k (omega arith)

-- a row stays if the arrays change only after its end
row_stays : (held : Held) (s begin end at : ℕ) (weights places weights' places' : List ℕ) →
    IsRowAt held s begin end weights places → end ≤ at → Agree at weights places weights' places' →
    length weights' ≡ length weights → IsRowAt held s begin end weights' places'
row_stays held s begin end at weights places weights' places' row low agree long = (
  row.0,
  row.1,
  row.2,
  omega (arith, long, row.3),
  λ j inside. let same = agree (begin + j) (omega (arith, low, inside, row.2)) in let stands = row.4 j inside in
      (same.0 ∙ stands.0, same.1 ∙ stands.1),
)

-- writing the end of row i keeps the begins of the rows up to i
pub begins_stay : (ends : List ℕ) (i end k : ℕ) → k < i + 1 → begin_of (set ends i end) k ≡ begin_of ends k
begins_stay ends i end zero low = refl
begins_stay ends i end (suc m) low = get_or-set_other ends i m end 0 (λ same. omega arith)

-- the row after row i begins at its end
pub begin_next : (ends : List ℕ) (i : ℕ) → begin_of ends (i + 1) ≡ get_or ends i 0
begin_next ends i = let next : i + 1 ≡ suc i = omega arith in subst (λ n. begin_of ends n ≡ get_or ends i 0) (sym next) refl

-- what holds of the rows before with their begins and ends, and of one more, holds of all once its end is written
pub ends_more : (Is : ℕ → ℕ → ℕ → Type 0) (ends : List ℕ) (i begin end : ℕ) → begin ≡ begin_of ends i → i < length ends →
    ((k : ℕ) → k < i → Is k (begin_of ends k) (get_or ends k 0)) → Is i begin end →
    (k : ℕ) → k < i + 1 → Is k (begin_of (set ends i end) k) (get_or (set ends i end) k 0)
ends_more Is ends i begin end here inside are own k more = elim (cases_order k i) [
  | inl same ↦ subst (λ (n : ℕ). Is n (begin_of (set ends i end) n) (get_or (set ends i end) n 0)) (sym same)
      (subst (λ b. Is i b (get_or (set ends i end) i 0)) (here ∙ sym (begins_stay ends i end i (omega arith)))
      (subst (Is i begin) (sym (get_or-set_same ends i end 0 inside)) own))
  | inr (inl less) ↦ subst (λ b. Is k b (get_or (set ends i end) k 0)) (sym (begins_stay ends i end k (omega arith)))
      (subst (Is k (begin_of ends k)) (sym (get_or-set_other ends i k end 0 (λ same. omega arith))) (are k less))
  | inr (inr past) ↦ absurd (omega arith)
]

module _ (held : Held) (sources ends weights places weights' places' : List ℕ) (i begin : ℕ) where
  -- the rows before stay, and one more comes after them
  pub rows_more : AreRowsAt held sources ends weights places i → begin ≡ begin_of ends i →
      ((k : ℕ) → k < i → get_or ends k 0 ≤ begin) → i < length ends →
      Agree begin weights places weights' places' → length weights' ≡ length weights → (row : List (ℕ × ℕ)) →
      IsKeptRow held (get_or sources i 0) row → begin + length row ≤ length weights →
      StandsAt begin row weights' places' → AreRowsAt held sources (set ends i (begin + length row)) weights' places' (i + 1)
  rows_more are here low inside agree long row kept fits stands =
      let Is : ℕ → ℕ → ℕ → Type 0 = λ k b e. IsRowAt held (get_or sources k 0) b e weights' places' in
      ends_more Is ends i begin (begin + length row) here inside
      (λ k less. row_stays held (get_or sources k 0) (begin_of ends k) (get_or ends k 0) begin weights places weights' places'
      (are k less) (low k less) agree long)
      (row, kept, refl, omega (arith, long, fits), stands)

-- no end is above the new one
pub ends_low : (ends : List ℕ) (i begin end : ℕ) → ((k : ℕ) → k < i → get_or ends k 0 ≤ begin) → begin ≤ end → i < length ends → (k : ℕ) →
    k < i + 1 → get_or (set ends i end) k 0 ≤ end
ends_low ends i begin end low more inside k less = elim (cases_order k i) [
  | inl same ↦ subst (λ (n : ℕ). get_or (set ends i end) n 0 ≤ end) (sym same) (let is = get_or-set_same ends i end 0 inside in omega arith)
  | inr (inl before) ↦ let is = get_or-set_other ends i k end 0 (λ same. omega arith) in let old = low k before in omega arith
  | inr (inr past) ↦ absurd (omega arith)
]
