-- Nodes by rank, and legs as searches read them.
use Rattle.std.specs.Prelude.{◌≡◌, ℕ, ◌+◌, ◌-◌, ◌*◌, ◌<◌, ◌≤◌, List, [], length, map, slice_index, slice_index_or}
use Rattle.ch_hierarchy.specs.declared.leg.Leg.{Leg}
use Rattle.ch_hierarchy.specs.declared.ranked.RankedLeg.{RankedLeg}
use Rattle.ch_hierarchy.specs.Rows.{row}
use Rattle.ch_hierarchy.specs.Hierarchy.{LevelsAndLegs}

-- the number of nodes higher than v, from the levels
abbrev pub rank_in : List ℕ → ℕ → ℕ
rank_in levels v = length levels - slice_index levels v

-- a leg with the rank of its node, from the levels
abbrev pub ranked_in : List ℕ → Leg → RankedLeg
ranked_in levels l = record { rank = rank_in levels l.node; arcs = l.cost.arcs; weight = l.cost.weight }

-- the number of nodes higher than v
abbrev pub rank_of : LevelsAndLegs → ℕ → ℕ
rank_of H v = rank_in H.level v

-- a leg with the rank of its node
abbrev pub ranked_leg : LevelsAndLegs → Leg → RankedLeg
ranked_leg H l = ranked_in H.level l

-- the leg's node exists, that node's level is at most the number of nodes, and the leg has fewer arcs than there are
-- nodes
abbrev pub IsRankable : List ℕ → Leg → Type 0
IsRankable levels l = (l.node < length levels) × (slice_index levels l.node ≤ length levels) × (l.cost.arcs < length levels)

-- the nodes are in order of rank
pub record AreByRank (levels nodes : List ℕ) : Type 0 where
  pub count : length nodes ≡ length levels
  pub each : (r : ℕ) → r < length levels → (slice_index nodes r < length levels) × (rank_in levels (slice_index nodes r) ≡ r)

-- for each of these nodes, its legs up by rank and then its legs down by rank
pub record AreRankedRows (levels nodes : List ℕ) (ups downs : List (List Leg)) (rows : List (List RankedLeg)) : Type 0 where
  pub count : length rows ≡ 2 * length nodes
  pub up : (r : ℕ) → r < length nodes → slice_index_or rows (2 * r) [] ≡ map (ranked_in levels) (row ups (slice_index nodes r))
  pub down : (r : ℕ) → r < length nodes → slice_index_or rows (2 * r + 1) [] ≡ map (ranked_in levels) (row downs (slice_index nodes r))

-- the nodes by rank, and their legs by rank
abbrev pub AreRanked : LevelsAndLegs → List ℕ → List (List RankedLeg) → Type 0
AreRanked H nodes rows = AreByRank H.level nodes × AreRankedRows H.level nodes H.up H.down rows
