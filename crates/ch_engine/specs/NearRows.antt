-- Near rows, one after the other in arrays: the end of each row, and its weights and places.
use Rattle.std.specs.Prelude.{◌≡◌, ℕ, zero, suc, ◌+◌, ◌<◌, ◌≤◌, List, length, slice_index, slice_index_or, MatchOption, ⊤}
use Rattle.ch_rows.specs.Kept.{IsRowOf}
use Rattle.ch_engine.specs.declared.written.End.{End}
use Rattle.ch_engine.specs.declared.written.Written.{Written}
use Rattle.ch_engine.specs.Held.{Held}

-- the row of a source, if places are kept
abbrev pub IsKeptRow : Held → ℕ → List (ℕ × ℕ) → Type 0
IsKeptRow held s row = MatchOption held.near ⊤ (λ asked. IsRowOf held.hierarchy asked s row)

-- the begin of row k: the end of the row before it
abbrev pub begin_of : List ℕ → ℕ → ℕ
begin_of ends zero = 0
begin_of ends (suc k) = slice_index ends k

-- the weights and the places of a row are in the arrays from this place on
abbrev pub StandsAt : ℕ → List (ℕ × ℕ) → List ℕ → List ℕ → Type 0
StandsAt begin row weights places =
    (j : ℕ) → j < length row → (slice_index weights (begin + j) ≡ (slice_index_or row j (0, 0)).0)
    × (slice_index places (begin + j) ≡ (slice_index_or row j (0, 0)).1)

-- the near row of a source is in the arrays from its begin to its end
abbrev pub IsRowAt : Held → ℕ → ℕ → ℕ → List ℕ → List ℕ → Type 0
IsRowAt held s begin end weights places =
    (row : List (ℕ × ℕ)) × IsKeptRow held s row × (end ≡ begin + length row) × (end ≤ length weights) × StandsAt begin row weights places

-- the rows of the first n sources are in the arrays, one after the other
abbrev pub AreRowsAt : Held → List ℕ → List ℕ → List ℕ → List ℕ → ℕ → Type 0
AreRowsAt held sources ends weights places n =
    (k : ℕ) → k < n → IsRowAt held (slice_index sources k) (begin_of ends k) (slice_index ends k) weights places

-- the row after the first n has more pairs than the arrays have room left for
abbrev pub LacksRoom : Held → List ℕ → List ℕ → List ℕ → ℕ → Type 0
LacksRoom held sources ends weights n =
    (row : List (ℕ × ℕ)) × IsKeptRow held (slice_index sources n) row × (length weights < begin_of ends n + length row)

-- the reason why no more rows were written
abbrev pub IsEnd : Held → List ℕ → List ℕ → List ℕ → ℕ → End → Type 0
IsEnd held sources ends weights n End.All = n ≡ length sources
IsEnd held sources ends weights n End.NoRoom = (n < length sources) × LacksRoom held sources ends weights n
IsEnd held sources ends weights n End.NoMemory = n ≤ length sources

-- from this place on, an array is as before
abbrev pub StaysFrom : ℕ → List ℕ → List ℕ → Type 0
StaysFrom n before after = (k : ℕ) → n ≤ k → slice_index after k ≡ slice_index before k

-- this number of rows was written, and this is the reason why no more were
abbrev pub AreRowsWritten : Held → List ℕ → List ℕ → List ℕ → List ℕ → Written → Type 0
AreRowsWritten held sources ends weights places written =
    AreRowsAt held sources ends weights places written.count × IsEnd held sources ends weights written.count written.end
