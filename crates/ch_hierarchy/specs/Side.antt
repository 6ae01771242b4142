-- The two directions of a search.
use Rattle.std.specs.Prelude.{ℕ, ◌+◌, ◌*◌, List}
use Rattle.ch_hierarchy.specs.declared.leg.Leg.{Leg}
use Rattle.ch_hierarchy.specs.Hierarchy.{LevelsAndLegs}
use Rattle.ch_hierarchy.specs.declared.side.Side.{Side}
use Rattle.ch_hierarchy.specs.declared.side.Side.TheVariants.{Up, Down}

-- the legs by node in this direction
abbrev pub rows_of : LevelsAndLegs → Side → List (List Leg)
rows_of H Up = H.up
rows_of H Down = H.down

-- the opposite direction
abbrev pub other : Side → Side
other Up = Down
other Down = Up

-- the number of a node of this rank in this direction
abbrev pub state_of : Side → ℕ → ℕ
state_of Up rank = 2 * rank
state_of Down rank = 2 * rank + 1
