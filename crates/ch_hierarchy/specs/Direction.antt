-- The direction of distances.
use Rattle.ch_hierarchy.specs.Hierarchy.{LevelsAndLegs}
use Rattle.ch_hierarchy.specs.declared.side.Side.{Side}
use Rattle.ch_hierarchy.specs.declared.side.Side.TheVariants.{Up, Down}
use Rattle.ch_hierarchy.specs.Side.{rows_of}
use Rattle.ch_hierarchy.specs.declared.direction.Direction.{Direction}
use Rattle.ch_hierarchy.specs.declared.direction.Direction.TheVariants.{To, From}

-- the side of the searches from a source
abbrev pub source_side : Direction → Side
source_side To = Up
source_side From = Down

-- the side of the searches from a target
abbrev pub target_side : Direction → Side
target_side To = Down
target_side From = Up

-- the hierarchy, reversed if distances go from the targets
abbrev pub facing : Direction → LevelsAndLegs → LevelsAndLegs
facing direction H = record { level = H.level; up = rows_of H (source_side direction); down = rows_of H (target_side direction) }
