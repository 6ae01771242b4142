-- Laws of near rows.
use Rattle.std.specs.Prelude.{◌≡◌, ℕ, List, Option}
use Rattle.ch_graph.specs.Graph.{Network, IsWithinLimits}
use Rattle.ch_hierarchy.specs.Hierarchy.{LevelsAndLegs}
use Rattle.ch_hierarchy.specs.Kept.{IsKept}
use Rattle.ch_hierarchy.specs.declared.direction.Direction.{Direction}
use Rattle.ch_hierarchy.specs.Direction.{facing}
use Rattle.ch_rows.specs.Near.{IsNearRow, IsNearestRow}

-- a near row of a hierarchy is a near row of each graph that the hierarchy is right for
abbrev pub NearRowsAreNearest : Type 0
NearRowsAreNearest = (g : Network) (H : LevelsAndLegs) (direction : Direction) (limit count : Option ℕ) (targets : List ℕ) (s : ℕ)
    (row : List (ℕ × ℕ)) → IsWithinLimits g → IsKept g H →
    IsNearRow (facing direction H) limit count targets s row → IsNearestRow g direction limit count targets s row

-- a source has at most one near row
abbrev pub OneNearestRow : Type 0
OneNearestRow = (g : Network) (direction : Direction) (limit count : Option ℕ) (targets : List ℕ) (s : ℕ) (a b : List (ℕ × ℕ)) →
    IsNearestRow g direction limit count targets s a → IsNearestRow g direction limit count targets s b → a ≡ b
