-- Near rows with sums in arrays, one after the other, and the pairs of a row.
use Rattle.std.proofs.Common.{◌≡◌, ℕ, ◌+◌, ◌<◌, ◌≤◌, List, length, get_or, set}
use Rattle.std.proofs.Common.{refl, sym, ◌∙◌, subst, arith}
use Rattle.ch_engine.specs.Held.{Held}
use Rattle.ch_engine.specs.NearRows.{IsKeptRow, StandsAt, begin_of}
use Rattle.ch_engine.specs.NearSums.{AreNearSumsAt, AreSummedRowsAt, IsNearSum, IsNearSumEnd, IsRowSumsEnd}
use Rattle.ch_engine.specs.NearSums.{IsRowsEnd, IsSummedRowAt, pair_at}
use Rattle.ch_engine.specs.declared.written.RowsEnd.{RowsEnd}
use Rattle.ch_engine.proofs.NearRows.{Agree, ends_more}

module _ (held : Held) (sources ends weights places sums weights' places' sums' : List ℕ) (i begin : ℕ) where
  -- a row stays if the arrays change only after its end
  summed_row_stays : (s first end : ℕ) → IsSummedRowAt held s first end weights places sums → end ≤ begin →
      Agree begin weights places weights' places' → ((k : ℕ) → k < begin → get_or sums' k 0 ≡ get_or sums k 0) →
      length weights' ≡ length weights → IsSummedRowAt held s first end weights' places' sums'
  summed_row_stays s first end row low agree still long = (
    row.0,
    row.1,
    row.2,
    omega (arith, long, row.3),
    λ j inside. let same = agree (first + j) (omega (arith, low, inside, row.2)) in let stands = row.4 j inside in
        (same.0 ∙ stands.0, same.1 ∙ stands.1),
    λ j inside. subst (IsNearSum held s (pair_at row.0 j).1 (pair_at row.0 j).0)
        (sym (still (first + j) (omega (arith, low, inside, row.2)))) (row.5 j inside),
  )

  -- the rows before stay, and one more comes after them
  pub summed_rows_more : AreSummedRowsAt held sources ends weights places sums i → begin ≡ begin_of ends i →
      ((k : ℕ) → k < i → get_or ends k 0 ≤ begin) → i < length ends → Agree begin weights places weights' places' →
      ((k : ℕ) → k < begin → get_or sums' k 0 ≡ get_or sums k 0) → length weights' ≡ length weights → (row : List (ℕ × ℕ)) →
      IsKeptRow held (get_or sources i 0) row → begin + length row ≤ length weights → StandsAt begin row weights' places' →
      AreNearSumsAt held (get_or sources i 0) row begin sums' →
      AreSummedRowsAt held sources (set ends i (begin + length row)) weights' places' sums' (i + 1)
  summed_rows_more are here low inside agree still long row kept fits stands summed =
      let Is : ℕ → ℕ → ℕ → Type 0 = λ k b e. IsSummedRowAt held (get_or sources k 0) b e weights' places' sums' in
      ends_more Is ends i begin (begin + length row) here inside
      (λ k less. summed_row_stays (get_or sources k 0) (begin_of ends k) (get_or ends k 0) (are k less) (low k less) agree still long)
      (row, kept, refl, omega (arith, long, fits), stands, summed)

-- a sum that was not found is where its row ends
pub row_ends_at : (held : Held) (s : ℕ) (row : List (ℕ × ℕ)) (j : ℕ) (end : RowsEnd) → j < length row →
    IsNearSumEnd held s (pair_at row j).1 end → IsRowSumsEnd held s row end
row_ends_at held s row j RowsEnd.All low is = absurd is
row_ends_at held s row j RowsEnd.NoRoom low is = absurd is
row_ends_at held s row j RowsEnd.TooLarge low is = (j, low, is)
row_ends_at held s row j RowsEnd.NoMemory low is = tt

-- sums of a row that were not found are where the rows end
pub rows_end_at : (held : Held) (sources ends weights : List ℕ) (i : ℕ) (row : List (ℕ × ℕ)) (end : RowsEnd) → i < length sources →
    IsKeptRow held (get_or sources i 0) row → IsRowSumsEnd held (get_or sources i 0) row end → IsRowsEnd held sources ends weights i end
rows_end_at held sources ends weights i row RowsEnd.All low kept is = absurd is
rows_end_at held sources ends weights i row RowsEnd.NoRoom low kept is = absurd is
rows_end_at held sources ends weights i row RowsEnd.TooLarge low kept is = (low, (row, kept, is))
rows_end_at held sources ends weights i row RowsEnd.NoMemory low kept is = omega (arith, low)
