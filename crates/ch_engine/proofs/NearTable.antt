-- Rows of cells in an array, one source after the other.
use Rattle.std.proofs.Common.{◌≡◌, ℕ, ◌+◌, ◌*◌, ◌<◌, ◌≤◌, List, length, get_or, Option, Some, None, inl, inr, sym, subst, arith}
use Rattle.std.specs.Prelude.{MatchOption, ⊤}
use Rattle.std.proofs.lemmas.Bool.{cases_lt}
use Rattle.ch_hierarchy.specs.Hierarchy.{LevelsAndLegs}
use Rattle.ch_rows.specs.Cells.{IsCellTo}
use Rattle.ch_hierarchy.specs.Direction.{facing}
use Rattle.ch_rows.specs.Kept.{AreCellsOf}
use Rattle.ch_rows.specs.Searched.{Asked}
use Rattle.ch_engine.specs.Cells.{IsCell, IsWordOf, no_distance}
use Rattle.ch_engine.specs.Held.{Held}
use Rattle.ch_engine.specs.NearTable.{AreCellsAt, AreKeptCells, KeepsAll, places_of}
use Rattle.ch_engine.specs.Routes.{HoldsFrom}
use Rattle.ch_engine.proofs.AddingUp.{ends_before}

-- the word of a target is a cell
cell_of : (H : LevelsAndLegs) (limit : Option ℕ) (s t word : ℕ) → IsCellTo H limit s t word → IsCell H limit s t word
cell_of H limit s t word cell = (cell.1.whole, cell.0, cell.1.distance, cell.1.cut, at cell.0 cell.2)
  where
    at : (answer : Option ℕ) → MatchOption answer (word ≡ no_distance) (λ x. (word ≡ x) × (x < no_distance)) → IsWordOf answer word
    at None is = is
    at (Some x) is = is

-- a row has a cell for each place
pub row_size : (held : Held) (s : ℕ) (row : List ℕ) → KeepsAll held.near → AreKeptCells held s row → length row ≡ places_of held.near
row_size held s row = at held.near
  where
    at : (near : Option Asked) → KeepsAll near → MatchOption near ⊤ (λ asked. AreCellsOf held.hierarchy asked s row) →
        length row ≡ places_of near
    at None keeps kept = absurd keeps
    at (Some asked) keeps kept = kept.size

-- the cells of source s over these places are in an array from a place on
abbrev Stand : Held → ℕ → ℕ → List ℕ → Option Asked → Type 0
Stand held s begin cells near = MatchOption near ⊤ (λ asked. (j : ℕ) → j < length asked.targets →
    IsCell (facing asked.direction held.hierarchy) asked.limit s (get_or asked.targets j 0) (get_or cells (begin + j) 0))

-- a row that is put into an array has its cells there
pub cells_at : (held : Held) (s begin : ℕ) (row cells : List ℕ) → AreKeptCells held s row → HoldsFrom begin row cells →
    AreCellsAt held s begin cells
cells_at held s begin row cells = at held.near
  where
    at : (near : Option Asked) → MatchOption near ⊤ (λ asked. AreCellsOf held.hierarchy asked s row) → HoldsFrom begin row cells →
        Stand held s begin cells near
    at None kept holds = tt
    at (Some asked) kept holds = λ j low.
        let size = kept.size in
        subst (IsCell (facing asked.direction held.hierarchy) asked.limit s (get_or asked.targets j 0)) (sym (holds j (omega arith)))
        (cell_of (facing asked.direction held.hierarchy) asked.limit s (get_or asked.targets j 0) (get_or row j 0) (kept.each j low))

-- the cells of a source stay if the array changes only behind them
cells_stay : (held : Held) (s begin end : ℕ) (cells cells' : List ℕ) → AreCellsAt held s begin cells → begin + places_of held.near ≤ end →
    ((k : ℕ) → k < end → get_or cells' k 0 ≡ get_or cells k 0) → AreCellsAt held s begin cells'
cells_stay held s begin end cells cells' = at held.near
  where
    at : (near : Option Asked) → Stand held s begin cells near → begin + places_of near ≤ end →
        ((k : ℕ) → k < end → get_or cells' k 0 ≡ get_or cells k 0) → Stand held s begin cells' near
    at None are low agree = tt
    at (Some asked) are low agree = λ j lt.
        subst (IsCell (facing asked.direction held.hierarchy) asked.limit s (get_or asked.targets j 0))
        (sym (agree (begin + j) (omega arith))) (are j lt)

module _ (held : Held) (sources cells cells' : List ℕ) (i : ℕ) where
  -- the rows before stay, and one more comes after them
  pub cells_more : ((k : ℕ) → k < i → AreCellsAt held (get_or sources k 0) (k * places_of held.near) cells) →
      ((k : ℕ) → k < i * places_of held.near → get_or cells' k 0 ≡ get_or cells k 0) →
      AreCellsAt held (get_or sources i 0) (i * places_of held.near) cells' →
      (k : ℕ) → k < i + 1 → AreCellsAt held (get_or sources k 0) (k * places_of held.near) cells'
  cells_more are agree own k more = elim (cases_lt k i) [
    | inl less ↦ cells_stay held (get_or sources k 0) (k * places_of held.near) (i * places_of held.near) cells cells' (are k less)
        (ends_before k i (places_of held.near) less) agree
    | inr past ↦ (let same : i ≡ k = omega arith in subst
        (λ (n : ℕ). AreCellsAt held (get_or sources n 0) (n * places_of held.near) cells') same own)
  ]
