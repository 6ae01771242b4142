-- Near rows with sums: beside each pair the sum of the kept values along the route between the source and the place.
use Rattle.std.specs.Prelude.{◌≡◌, ℕ, ◌+◌, ◌<◌, ◌≤◌, List, length, slice_index, slice_index_or, MatchOption, ⊤}
use Rattle.ch_hierarchy.specs.Hierarchy.{nodes_of}
use Rattle.ch_hierarchy.specs.declared.direction.Direction.{Direction}
use Rattle.ch_hierarchy.specs.declared.direction.Direction.TheVariants.{To, From}
use Rattle.ch_hierarchy.specs.Direction.{facing}
use Rattle.ch_rows.specs.Near.{IsDistanceTo}
use Rattle.ch_rows.specs.Searched.{Asked}
use Rattle.ch_engine.specs.declared.written.RowsEnd.{RowsEnd}
use Rattle.ch_engine.specs.declared.written.SummedRows.{SummedRows}
use Rattle.ch_engine.specs.Held.{Held}
use Rattle.ch_engine.specs.NearRows.{IsKeptRow, LacksRoom, StandsAt, begin_of}
use Rattle.ch_engine.specs.Refusals.{AreNodes}
use Rattle.ch_engine.specs.RouteSums.{IsPairSum, IsPairTooLarge}

-- where the route of a source s and a place t begins and where it ends
abbrev pub ends_in : Direction → ℕ → ℕ → ℕ × ℕ
ends_in To s t = (s, t)
ends_in From s t = (t, s)

-- the ends of the route of source s and the kept place with this number
abbrev pub ends_of : Asked → ℕ → ℕ → ℕ × ℕ
ends_of asked s place = ends_in asked.direction s (slice_index asked.targets place)

-- the weight of this route and the sum of the kept values along it, if places and values are kept
abbrev pub IsNearSum : Held → ℕ → ℕ → ℕ → ℕ → Type 0
IsNearSum held s place weight sum = MatchOption held.near ⊤ (λ asked. MatchOption held.values ⊤ (λ values.
    IsPairSum held values (ends_of asked s place).0 (ends_of asked s place).1 weight sum))

-- this sum is 2^64 or more
abbrev pub IsNearSumTooLarge : Held → ℕ → ℕ → Type 0
IsNearSumTooLarge held s place = MatchOption held.near ⊤ (λ asked. MatchOption held.values ⊤ (λ values.
    IsPairTooLarge held values (ends_of asked s place).0 (ends_of asked s place).1))

-- places are kept, which are nodes
abbrev pub KeepsNodes : Held → Type 0
KeepsNodes held = MatchOption held.near ⊥ (λ asked. AreNodes (nodes_of held.hierarchy) asked.targets)

-- a distance and a kept place, which is a node at this distance from s, or s from it, within the limit
abbrev pub IsNearPair : Held → ℕ → ℕ × ℕ → Type 0
IsNearPair held s pair = MatchOption held.near ⊥ (λ asked.
    IsDistanceTo (facing asked.direction held.hierarchy) asked.limit asked.targets s pair
    × (slice_index asked.targets pair.1 < nodes_of held.hierarchy))

-- pair j of a row
abbrev pub pair_at : List (ℕ × ℕ) → ℕ → ℕ × ℕ
pair_at row j = slice_index_or row j (0, 0)

-- the sums of the pairs of a row
abbrev pub AreNearSums : Held → ℕ → List (ℕ × ℕ) → List ℕ → Type 0
AreNearSums held s row sums = (j : ℕ) → j < length row → IsNearSum held s (pair_at row j).1 (pair_at row j).0 (slice_index sums j)

-- they are in an array from this place on
abbrev pub AreNearSumsAt : Held → ℕ → List (ℕ × ℕ) → ℕ → List ℕ → Type 0
AreNearSumsAt held s row begin sums =
    (j : ℕ) → j < length row → IsNearSum held s (pair_at row j).1 (pair_at row j).0 (slice_index sums (begin + j))

-- the near row of a source and its sums are in the arrays from its begin to its end
abbrev pub IsSummedRowAt : Held → ℕ → ℕ → ℕ → List ℕ → List ℕ → List ℕ → Type 0
IsSummedRowAt held s begin end weights places sums = (row : List (ℕ × ℕ)) × IsKeptRow held s row × (end ≡ begin + length row)
    × (end ≤ length weights) × StandsAt begin row weights places × AreNearSumsAt held s row begin sums

-- those of the first n sources are in the arrays, one after the other
abbrev pub AreSummedRowsAt : Held → List ℕ → List ℕ → List ℕ → List ℕ → List ℕ → ℕ → Type 0
AreSummedRowsAt held sources ends weights places sums n =
    (k : ℕ) → k < n → IsSummedRowAt held (slice_index sources k) (begin_of ends k) (slice_index ends k) weights places sums

-- a sum of a pair in the row of s is 2^64 or more
abbrev pub IsRowTooLarge : Held → ℕ → Type 0
IsRowTooLarge held s =
    (row : List (ℕ × ℕ)) × IsKeptRow held s row × ((j : ℕ) × (j < length row) × IsNearSumTooLarge held s (pair_at row j).1)

-- the reason why no more rows were written
abbrev pub IsRowsEnd : Held → List ℕ → List ℕ → List ℕ → ℕ → RowsEnd → Type 0
IsRowsEnd held sources ends weights n RowsEnd.All = n ≡ length sources
IsRowsEnd held sources ends weights n RowsEnd.NoRoom = (n < length sources) × LacksRoom held sources ends weights n
IsRowsEnd held sources ends weights n RowsEnd.TooLarge = (n < length sources) × IsRowTooLarge held (slice_index sources n)
IsRowsEnd held sources ends weights n RowsEnd.NoMemory = n ≤ length sources

-- so many rows were written with their sums, and this is the reason why no more were
abbrev pub AreSummedRowsWritten : Held → List ℕ → List ℕ → List ℕ → List ℕ → List ℕ → SummedRows → Type 0
AreSummedRowsWritten held sources ends weights places sums written =
    AreSummedRowsAt held sources ends weights places sums written.count × IsRowsEnd held sources ends weights written.count written.end

-- the reason why the sum of a pair in the row of s was not found
abbrev pub IsNearSumEnd : Held → ℕ → ℕ → RowsEnd → Type 0
IsNearSumEnd held s place RowsEnd.All = ⊥
IsNearSumEnd held s place RowsEnd.NoRoom = ⊥
IsNearSumEnd held s place RowsEnd.TooLarge = IsNearSumTooLarge held s place
IsNearSumEnd held s place RowsEnd.NoMemory = ⊤

-- the reason why those of a row were not found
abbrev pub IsRowSumsEnd : Held → ℕ → List (ℕ × ℕ) → RowsEnd → Type 0
IsRowSumsEnd held s row RowsEnd.All = ⊥
IsRowSumsEnd held s row RowsEnd.NoRoom = ⊥
IsRowSumsEnd held s row RowsEnd.TooLarge = (j : ℕ) × (j < length row) × IsNearSumTooLarge held s (pair_at row j).1
IsRowSumsEnd held s row RowsEnd.NoMemory = ⊤
