-- Levels, and the legs of each node to and from higher nodes.
use Rattle.std.specs.Prelude.{◌≡◌, ◌≢◌, ℕ, ◌<◌, ◌≤◌, List, length, slice_index, AllPairs, All}
use Rattle.ch_graph.specs.declared.limits.TheConstants.{MOST_NODES, MOST_WEIGHT}
use Rattle.ch_hierarchy.specs.declared.leg.Leg.{Leg}
use Rattle.ch_hierarchy.specs.Rows.{row, IsRow}

-- a hierarchy as contracts see it: the level of each node, its legs to higher nodes, and its legs from higher nodes
pub record LevelsAndLegs : Type 0 where
  pub level : List ℕ
  pub up : List (List Leg)
  pub down : List (List Leg)

abbrev pub nodes_of : LevelsAndLegs → ℕ
nodes_of H = length H.level

-- the levels are the numbers from 1 to their count, each once
abbrev pub AreLevels : List ℕ → Type 0
AreLevels levels = All (λ l. (1 ≤ l) × (l ≤ length levels)) levels × AllPairs ◌≢◌ levels

-- a leg of node v leads to or from a higher node, and is within the limits
pub record IsLegUp (H : LevelsAndLegs) (v : ℕ) (l : Leg) : Type 0 where
  pub node : l.node < nodes_of H
  pub higher : slice_index H.level v < slice_index H.level l.node
  pub weight : l.cost.weight ≤ MOST_WEIGHT
  pub arcs : l.cost.arcs < nodes_of H

abbrev pub AreLegsUp : LevelsAndLegs → List (List Leg) → Type 0
AreLegsUp H rows = (length rows ≡ nodes_of H) × ((v : ℕ) → IsRow (row rows v) × All (IsLegUp H v) (row rows v))

-- the levels are from 1 to the number of nodes, each once, and legs go to and from higher nodes, at most one for each
-- pair
pub record IsLevelled (H : LevelsAndLegs) : Type 0 where
  pub count : nodes_of H ≤ MOST_NODES
  pub levels : AreLevels H.level
  pub up : AreLegsUp H H.up
  pub down : AreLegsUp H H.down
