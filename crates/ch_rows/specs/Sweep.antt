-- The rows of all nodes, made from the highest rank down.
use Rattle.std.specs.Prelude.{◌≡◌, ℕ, ◌<◌, ◌⊎◌, List, [], length, map, slice_index_or, Option}
use Rattle.ch_hierarchy.specs.declared.ranked.RankedLeg.{RankedLeg}
use Rattle.ch_hierarchy.specs.Hierarchy.{LevelsAndLegs, nodes_of}
use Rattle.ch_hierarchy.specs.Ranked.{rank_of}
use Rattle.ch_rows.specs.Near.{Wanted, IsNearRow}
use Rattle.ch_rows.specs.Sums.{IsSum, IsSumOf}

-- the rank where a leg leads, and the leg's weight
abbrev pub entry_of_leg : RankedLeg → ℕ × ℕ
entry_of_leg l = (l.rank, l.weight)

-- e is a pair of the node's bucket within the limit, or a pair of a row where a leg leads, with the leg's weight
-- added
abbrev pub IsOwed : Option ℕ → List (ℕ × ℕ) → List RankedLeg → List (List (ℕ × ℕ)) → ℕ × ℕ → Type 0
IsOwed limit bucket legs rows e = IsSum limit 0 bucket e ⊎ IsSumOf limit (map entry_of_leg legs) rows e

-- the rows of the nodes at the first k ranks
pub record AreRowsTo (wanted : Wanted) (k : ℕ) (rows : List (List (ℕ × ℕ))) : Type 0 where
  pub size : length rows ≡ k
  pub each : (v : ℕ) → v < nodes_of wanted.hierarchy → rank_of wanted.hierarchy v < k →
      IsNearRow wanted.hierarchy wanted.limit wanted.count wanted.targets v (slice_index_or rows (rank_of wanted.hierarchy v) [])

-- the row of a node, if each rank has a row
abbrev pub row_at : LevelsAndLegs → List (List (ℕ × ℕ)) → ℕ → List (ℕ × ℕ)
row_at H rows v = slice_index_or rows (rank_of H v) []

-- the rows of all nodes
abbrev pub AreNodeRows : Wanted → LevelsAndLegs × List (List (ℕ × ℕ)) → Type 0
AreNodeRows wanted all = (nodes_of all.0 ≡ nodes_of wanted.hierarchy) × ((v : ℕ) → v < nodes_of wanted.hierarchy →
    IsNearRow wanted.hierarchy wanted.limit wanted.count wanted.targets v (row_at all.0 all.1 v))
