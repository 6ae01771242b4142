-- The data that workers share when they answer queries.
use Rattle.std.specs.Prelude.{Bool}
use Rattle.ch_hierarchy.specs.Hierarchy.{LevelsAndLegs}

-- a hierarchy to answer queries in, and whether routes are wanted
pub record Task : Type 0 where
  pub hierarchy : LevelsAndLegs
  pub routes : Bool
