-- Distances as words of 64 bits.
use Rattle.std.specs.Prelude.{◌≡◌, ℕ, ◌-◌, ◌/◌, ◌%◌, ◌^◌, ◌<◌, List, length, slice_index, Option, None, Some}
use Rattle.ch_hierarchy.specs.Hierarchy.{LevelsAndLegs}
use Rattle.ch_query.specs.Distance.{IsDistanceBy}
use Rattle.ch_query.specs.Limits.{IsCut}

-- the word for no distance: the greatest number of 64 bits
abbrev pub no_distance : ℕ
no_distance = 2 ^ 64 - 1

-- the word of an answer
abbrev pub word_of : Option ℕ → ℕ
word_of None = no_distance
word_of (Some weight) = weight

-- the word of a distance, which is less than the word for none; or the word for none
abbrev pub IsWordOf : Option ℕ → ℕ → Type 0
IsWordOf None word = word ≡ no_distance
IsWordOf (Some weight) word = (word ≡ weight) × (weight < no_distance)

-- the word of the distance from s to t if it is within the limit, and otherwise the word for none
abbrev pub IsCell : LevelsAndLegs → Option ℕ → ℕ → ℕ → ℕ → Type 0
IsCell H limit s t word = (whole answer : Option ℕ) × IsDistanceBy H s t whole × IsCut limit whole answer × IsWordOf answer word

-- word k is the word of pair k
abbrev pub ArePairCells : LevelsAndLegs → List ℕ → List ℕ → List ℕ → Type 0
ArePairCells H sources targets words =
    (k : ℕ) → k < length words → IsCell H None (slice_index sources k) (slice_index targets k) (slice_index words k)

-- the words are those of a table, row after row
abbrev pub AreTableCells : LevelsAndLegs → Option ℕ → List ℕ → List ℕ → List ℕ → Type 0
AreTableCells H limit sources targets words =
    (k : ℕ) → k < length words → IsCell H limit (slice_index sources (k / length targets))
    (slice_index targets (k % length targets)) (slice_index words k)
