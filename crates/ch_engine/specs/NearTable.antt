-- Rows of a table over the kept places: for each source a word for each place, in the order of the places.
use Rattle.std.specs.Prelude.{◌≡◌, ℕ, ◌+◌, ◌*◌, ◌<◌, ◌≤◌, List, length, slice_index, MatchOption, Option, None, Some, ⊤}
use Rattle.ch_hierarchy.specs.Direction.{facing}
use Rattle.ch_rows.specs.Kept.{AreCellsOf, IsWhole}
use Rattle.ch_rows.specs.Searched.{Asked}
use Rattle.ch_engine.specs.declared.written.End.{End}
use Rattle.ch_engine.specs.declared.written.Written.{Written}
use Rattle.ch_engine.specs.Cells.{IsCell}
use Rattle.ch_engine.specs.Held.{Held}

-- the number of kept places
abbrev pub places_of : Option Asked → ℕ
places_of None = 0
places_of (Some asked) = length asked.targets

-- places are kept, and no row leaves one out because of their number
abbrev pub KeepsAll : Option Asked → Type 0
KeepsAll near = MatchOption near ⊥ IsWhole

-- the cells of source s, if places are kept
abbrev pub AreKeptCells : Held → ℕ → List ℕ → Type 0
AreKeptCells held s words = MatchOption held.near ⊤ (λ asked. AreCellsOf held.hierarchy asked s words)

-- in an array from this place on is the word of each kept place: its distance with s if it is within the limit, or the word for none
abbrev pub AreCellsAt : Held → ℕ → ℕ → List ℕ → Type 0
AreCellsAt held s begin cells = MatchOption held.near ⊤ (λ asked. (j : ℕ) → j < length asked.targets →
    IsCell (facing asked.direction held.hierarchy) asked.limit s (slice_index asked.targets j) (slice_index cells (begin + j)))

-- the reason why no more than n rows were written
abbrev pub IsCellsEnd : List ℕ → ℕ → End → Type 0
IsCellsEnd sources n End.All = n ≡ length sources
IsCellsEnd sources n End.NoRoom = ⊥
IsCellsEnd sources n End.NoMemory = n ≤ length sources

-- the rows of so many sources were written, and this is the reason why no more were
abbrev pub AreCellsWritten : Held → List ℕ → List ℕ → Written → Type 0
AreCellsWritten held sources cells written =
    ((k : ℕ) → k < written.count → AreCellsAt held (slice_index sources k) (k * places_of held.near) cells)
    × IsCellsEnd sources written.count written.end
