-- Rows of cells: the distance of each target, in the order of the list.
use Rattle.std.specs.Prelude.{◌≡◌, ℕ, ◌<◌, ◌≤◌, nat_le, if◌then◌else◌, List, length, slice_index, MatchOption, Option, Some, None}
use Rattle.ch_graph.specs.declared.limits.TheConstants.{MOST_SUM}
use Rattle.ch_hierarchy.specs.Hierarchy.{LevelsAndLegs}
use Rattle.ch_query.specs.Limits.{IsWithin, IsDistanceWithin}
use Rattle.ch_rows.specs.declared.offers.TheConstants.{UNOFFERED}
use Rattle.ch_rows.specs.Near.{Wanted}

-- the word of t: the distance from s to t if it is within the limit, and otherwise the word for none
abbrev pub IsCellTo : LevelsAndLegs → Option ℕ → ℕ → ℕ → ℕ → Type 0
IsCellTo H limit s t word = (answer : Option ℕ) × IsDistanceWithin H limit s t answer
    × MatchOption answer (word ≡ UNOFFERED) (λ x. (word ≡ x) × (x < UNOFFERED))

-- the words are those of the targets, in their order
pub record AreCells (wanted : Wanted) (s : ℕ) (words : List ℕ) : Type 0 where
  pub size : length words ≡ length wanted.targets
  pub each : (j : ℕ) → j < length wanted.targets →
      IsCellTo wanted.hierarchy wanted.limit s (slice_index wanted.targets j) (slice_index words j)

-- the most that a sum of the weights of two paths may be, if it is within the limit
pub record IsMostSum (limit : Option ℕ) (most : ℕ) : Type 0 where
  pub limits : most ≤ MOST_SUM
  pub sound : (x : ℕ) → x ≤ most → IsWithin limit x
  pub whole : (x : ℕ) → x ≤ MOST_SUM → IsWithin limit x → x ≤ most

-- the cell of a word, which is none if the word is more than `most`
abbrev pub cell_of : ℕ → ℕ → Option ℕ
cell_of most word = (if nat_le word most then Some word else None)
