-- Tables of distances: the search spaces of all targets by slots of ranks, and the least sums of a row.
use Rattle.std.specs.Prelude.{◌≡◌, ℕ, ◌+◌, ◌<◌, ◌≤◌, ◌↔◌, nat_le, if◌then◌else◌, List, [], length, slice_index, slice_index_or}
use Rattle.std.specs.Prelude.{All, Contains, Option, Some, None}
use Rattle.ch_graph.specs.declared.limits.TheConstants.{MOST_SUM, MOST_WEIGHT}
use Rattle.ch_hierarchy.specs.Hierarchy.{LevelsAndLegs}
use Rattle.ch_hierarchy.specs.declared.side.Side.TheVariants.{Down}
use Rattle.ch_query.specs.Limits.{IsWithin}
use Rattle.ch_query.specs.SearchSpace.{IsRankedSpace}
use Rattle.ch_engine.specs.Cells.{IsCell, word_of}
use Rattle.ch_engine.specs.Slots.{IsSlotOf}

-- the row at the slot of this rank has this entry
abbrev pub HasAtRank : List ℕ → List (List (ℕ × ℕ)) → ℕ → ℕ × ℕ → Type 0
HasAtRank names rows rank entry = (i : ℕ) × IsSlotOf names rank i × Contains (slice_index_or rows i []) entry

-- the entry has a place below `places` and the weight of a path
abbrev pub IsEntryAmong : ℕ → ℕ × ℕ → Type 0
IsEntryAmong places entry = (entry.0 < places) × (entry.1 ≤ MOST_WEIGHT)

-- by place and rank, entries have exactly the weights of search spaces down to the first n targets
pub record HasSpaces (H : LevelsAndLegs) (limit : Option ℕ) (targets : List ℕ) (n : ℕ) (Has : ℕ → ℕ × ℕ → Type 0) : Type 0 where
  pub few : (rank : ℕ) (entry : ℕ × ℕ) → Has rank entry → entry.0 < n
  pub spaces : (c : ℕ) → c < n → (space : List (ℕ × ℕ)) × IsRankedSpace H Down limit (slice_index targets c) space
      × ((rank x : ℕ) → Contains space (rank, x) ↔ Has rank (c, x))

-- rows by slot have those of all targets
pub record HoldSpaces (H : LevelsAndLegs) (limit : Option ℕ) (targets names : List ℕ) (rows : List (List (ℕ × ℕ))) : Type 0 where
  pub among : (i : ℕ) → All (IsEntryAmong (length targets)) (slice_index_or rows i [])
  pub has : HasSpaces H limit targets (length targets) (HasAtRank names rows)

-- x is the sum of the weight and that of place j in the bucket
abbrev pub IsSumAt : ℕ → List (ℕ × ℕ) → ℕ → ℕ → Type 0
IsSumAt weight bucket j x = (b : ℕ) × Contains bucket (j, b) × (x ≡ weight + b)

-- x is such a sum at the slot of a rank
abbrev pub IsSumOfRank : List ℕ → List (List (ℕ × ℕ)) → ℕ → ℕ → ℕ → ℕ → Type 0
IsSumOfRank names rows rank weight j x = (b : ℕ) × HasAtRank names rows rank (j, b) × (x ≡ weight + b)

-- x is such a sum at a rank of the search space
abbrev pub IsSumBy : List ℕ → List (List (ℕ × ℕ)) → List (ℕ × ℕ) → ℕ → ℕ → Type 0
IsSumBy names rows space j x = (rank a : ℕ) × Contains space (rank, a) × IsSumOfRank names rows rank a j x

-- the most that a sum of the weights of two paths may be, if it is within the limit
pub record IsMostSum (limit : Option ℕ) (most : ℕ) : Type 0 where
  pub limits : most ≤ MOST_SUM
  pub sound : (x : ℕ) → x ≤ most → IsWithin limit x
  pub whole : (x : ℕ) → x ≤ MOST_SUM → IsWithin limit x → x ≤ most

-- a sum that is at most `most`, and otherwise none
abbrev pub cell_of : ℕ → ℕ → Option ℕ
cell_of most sum = (if nat_le sum most then Some sum else None)

-- its word
abbrev pub cell_word : ℕ → ℕ → ℕ
cell_word most sum = word_of (cell_of most sum)

-- the row of source s: a cell for each target, in order
pub record IsTableRow (H : LevelsAndLegs) (limit : Option ℕ) (s : ℕ) (targets row : List ℕ) : Type 0 where
  pub size : length row ≡ length targets
  pub each : (j : ℕ) → j < length targets → IsCell H limit s (slice_index targets j) (slice_index row j)
