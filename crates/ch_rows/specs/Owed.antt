-- What the nodes owe to the cells of a table: the sums within a limit of the entries of their two buckets. Each node
-- is an item.
use Rattle.std.specs.Prelude.{◌≡◌, ℕ, ◌+◌, ◌*◌, ◌<◌, ◌≤◌, List, [], length, slice_index_or, Contains, All, Option}
use Rattle.ch_hierarchy.specs.Hierarchy.{LevelsAndLegs}
use Rattle.ch_hierarchy.specs.declared.side.Side.TheVariants.{Up, Down}
use Rattle.ch_query.specs.Limits.{IsWithin}
use Rattle.ch_work.specs.declared.limits.TheConstants.{MOST_CELLS}
use Rattle.ch_rows.specs.Buckets.{HoldSearchSpaces, IsEntryAmong}

-- the buckets of the sources and of the targets, the numbers of sources and of targets, and the limit on sums. Cell
-- `i * columns + j` is that of source i and target j
pub record BothSides : Type 0 where
  pub ups : List (List (ℕ × ℕ))
  pub downs : List (List (ℕ × ℕ))
  pub rows : ℕ
  pub columns : ℕ
  pub limit : Option ℕ

-- both sides have buckets for the same items, and each entry is that of a row or a column
pub record AreWithin (S : BothSides) : Type 0 where
  pub items : length S.downs ≡ length S.ups
  pub ups : (q : ℕ) → All (IsEntryAmong S.rows) (slice_index_or S.ups q [])
  pub downs : (q : ℕ) → All (IsEntryAmong S.columns) (slice_index_or S.downs q [])
  pub cells : S.rows * S.columns ≤ MOST_CELLS

-- the buckets hold search spaces of these sources, going up, and of these targets, going down; a rank has the same
-- item on both sides
pub record AreSidesOf (H : LevelsAndLegs) (most : Option ℕ) (item : ℕ → ℕ) (sources targets : List ℕ) (S : BothSides) : Type 0 where
  pub rise : HoldSearchSpaces H Up most item sources S.ups
  pub fall : HoldSearchSpaces H Down most item targets S.downs
  pub rows : S.rows ≡ length sources
  pub columns : S.columns ≡ length targets
  pub limit : S.limit ≡ most

-- what the weight of a source, whose row begins at `first`, owes with these entries of targets: each sum that is
-- within the limit
abbrev pub IsOwedInRow : Option ℕ → ℕ → ℕ → List (ℕ × ℕ) → ℕ → ℕ → Type 0
IsOwedInRow limit first weight targets cell x =
    (j b : ℕ) × Contains targets (j, b) × (cell ≡ first + j) × (x ≡ weight + b) × IsWithin limit x

-- what these entries of sources owe with these entries of targets
abbrev pub IsOwedBy : Option ℕ → ℕ → List (ℕ × ℕ) → List (ℕ × ℕ) → ℕ → ℕ → Type 0
IsOwedBy limit columns sources targets cell x = (i a : ℕ) × Contains sources (i, a) × IsOwedInRow limit (i * columns) a targets cell x

-- what the node of item q owes
abbrev pub IsOwedAt : BothSides → ℕ → ℕ → ℕ → Type 0
IsOwedAt S q = IsOwedBy S.limit S.columns (slice_index_or S.ups q []) (slice_index_or S.downs q [])

-- what the nodes of a range of items owe
abbrev pub IsOwedAmong : BothSides → ℕ → ℕ → ℕ → ℕ → Type 0
IsOwedAmong S from to cell x = (q : ℕ) × (from ≤ q) × (q < to) × IsOwedAt S q cell x
