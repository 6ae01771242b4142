-- Sums of values over near rows: for each source and each limit the values of the places within the limit.
use Rattle.std.specs.Prelude.{◌≡◌, ℕ, ◌+◌, ◌*◌, ◌^◌, ◌<◌, ◌≤◌, nat_le, if◌then◌else◌, List, length, slice_index}
use Rattle.std.specs.List.{sum_by}
use Rattle.ch_engine.specs.declared.written.Summed.{Summed}
use Rattle.ch_engine.specs.declared.written.SumsEnd.{SumsEnd}
use Rattle.ch_engine.specs.Held.{Held}
use Rattle.ch_engine.specs.NearRows.{IsKeptRow}

-- what a pair of a distance and a place counts: the value of the place if the distance is within the limit, and
-- otherwise 0
abbrev pub share_of : List ℕ → ℕ → ℕ × ℕ → ℕ
share_of values limit e = if nat_le e.0 limit then slice_index values e.1 else 0

-- the sum of the values of the places of a row whose distances are within the limit
abbrev pub sum_within : List ℕ → ℕ → List (ℕ × ℕ) → ℕ
sum_within values limit row = sum_by (share_of values limit) row

-- the sums of a source's row, one for each limit, are in an array from this place on
abbrev pub AreSumsAt : List ℕ → List ℕ → List (ℕ × ℕ) → ℕ → List ℕ → Type 0
AreSumsAt values limits row begin sums =
    (j : ℕ) → j < length limits → slice_index sums (begin + j) ≡ sum_within values (slice_index limits j) row

-- the sums of source s are in an array from this place on
abbrev pub AreSumsOf : Held → List ℕ → List ℕ → ℕ → ℕ → List ℕ → Type 0
AreSumsOf held values limits s begin sums = (row : List (ℕ × ℕ)) × IsKeptRow held s row × AreSumsAt values limits row begin sums

-- a sum of source s is 2^64 or more
abbrev pub IsTooLarge : Held → List ℕ → List ℕ → ℕ → Type 0
IsTooLarge held values limits s =
    (row : List (ℕ × ℕ)) × IsKeptRow held s row × ((j : ℕ) × (j < length limits) × (2 ^ 64 ≤ sum_within values (slice_index limits j) row))

-- the reason why the sums of no more sources were written
abbrev pub IsSumsEnd : Held → List ℕ → List ℕ → List ℕ → ℕ → SumsEnd → Type 0
IsSumsEnd held sources values limits n SumsEnd.All = n ≡ length sources
IsSumsEnd held sources values limits n SumsEnd.TooLarge = (n < length sources) × IsTooLarge held values limits (slice_index sources n)
IsSumsEnd held sources values limits n SumsEnd.NoMemory = n ≤ length sources

-- the sums of so many sources were written, a row of one for each limit, and this is the reason why no more were
abbrev pub AreSumsWritten : Held → List ℕ → List ℕ → List ℕ → List ℕ → Summed → Type 0
AreSumsWritten held sources values limits sums summed =
    ((k : ℕ) → k < summed.count → AreSumsOf held values limits (slice_index sources k) (k * length limits) sums)
    × IsSumsEnd held sources values limits summed.count summed.end
