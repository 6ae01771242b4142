-- Sums over near rows in an array, one source after the other.
use Rattle.std.proofs.Common.{◌≡◌, ℕ, suc, ◌+◌, ◌*◌, ◌<◌, ◌≤◌, List, length, get_or, Option, Some, None, inl, inr, ◌∙◌, subst, arith}
use Rattle.std.specs.Prelude.{All, MatchOption, ⊤}
use Rattle.std.proofs.lemmas.Bool.{cases_lt}
use Rattle.std.proofs.lemmas.List.{get_or_default}
use Rattle.std.proofs.lemmas.Nat.{mul-le}
use Rattle.std.proofs.Math.Nat.{suc-mul}
use Rattle.ch_rows.specs.Kept.{IsRowOf}
use Rattle.ch_rows.specs.Searched.{Asked}
use Rattle.ch_engine.specs.Held.{Held}
use Rattle.ch_engine.specs.NearRows.{IsKeptRow}
use Rattle.ch_engine.specs.Refusals.{HasValues}
use Rattle.ch_engine.specs.Sums.{AreSumsAt, AreSumsOf}

-- each place of a row has a value
pub places_low : (held : Held) (s : ℕ) (row : List (ℕ × ℕ)) (values : List ℕ) → IsKeptRow held s row → HasValues held.near values →
    All (λ e. e.1 < length values) row
places_low held s row values kept has = at held.near kept has
  where
    at : (near : Option Asked) → MatchOption near ⊤ (λ asked. IsRowOf held.hierarchy asked s row) → HasValues near values →
        All (λ e. e.1 < length values) row
    at None kept has = absurd has
    at (Some asked) kept has =
        λ k d low. omega (arith, has, (kept.sound (get_or row k d) (k, low, get_or_default row k (get_or row k d) d low)).0)

-- the sums of one source end before those of the next
pub ends_before : (k i m : ℕ) → k < i → k * m + m ≤ i * m
ends_before k i m less = let next = suc-mul k m in let most = mul-le (suc k) m i m (omega arith) (omega arith) in omega (arith, next, most)

module _ (held : Held) (sources values limits sums sums' : List ℕ) (i : ℕ) where
  -- the sums of the sources before stay, and those of one more come after them
  pub sums_more : ((k : ℕ) → k < i → AreSumsOf held values limits (get_or sources k 0) (k * length limits) sums) →
      ((k : ℕ) → k < i * length limits → get_or sums' k 0 ≡ get_or sums k 0) →
      (row : List (ℕ × ℕ)) → IsKeptRow held (get_or sources i 0) row → AreSumsAt values limits row (i * length limits) sums' →
      (k : ℕ) → k < i + 1 → AreSumsOf held values limits (get_or sources k 0) (k * length limits) sums'
  sums_more are agree row kept here k more = elim (cases_lt k i) [
    | inl less ↦ (let is = are k less in let before = ends_before k i (length limits) less in
        (is.0, is.1, λ j low. agree (k * length limits + j) (omega (arith, before, low)) ∙ is.2 j low))
    | inr past ↦ (let same : i ≡ k = omega arith in subst
        (λ (n : ℕ). AreSumsOf held values limits (get_or sources n 0) (n * length limits) sums') same (row, kept, here))
  ]
