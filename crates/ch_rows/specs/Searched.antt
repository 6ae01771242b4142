-- Targets that were searched from.
use Rattle.std.specs.Prelude.{ℕ, List, Option}
use Rattle.ch_hierarchy.specs.Hierarchy.{LevelsAndLegs}
use Rattle.ch_hierarchy.specs.declared.direction.Direction.{Direction}
use Rattle.ch_rows.specs.declared.searched.Searched.{Searched}
use Rattle.ch_rows.specs.Buckets.{HoldNearest}
use Rattle.ch_hierarchy.specs.Direction.{facing}
use Rattle.ch_rows.specs.Near.{Wanted}

-- what near rows are asked for, in whichever hierarchy: in which direction, to which targets, within which limit, and how many at most
pub record Asked : Type 0 where
  pub direction : Direction
  pub targets : List ℕ
  pub limit : Option ℕ
  pub count : Option ℕ

-- what is asked of targets that were searched from
abbrev pub asked_of : Searched → Asked
asked_of s = record { direction = s.direction; targets = s.targets.items; limit = s.within; count = s.count }

-- the same in this hierarchy
abbrev pub wanted_in : LevelsAndLegs → Asked → Wanted
wanted_in H asked = record { hierarchy = facing asked.direction H; targets = asked.targets; limit = asked.limit; count = asked.count }

-- the targets were searched from in this hierarchy
abbrev pub AreSearched : LevelsAndLegs → Searched → Type 0
AreSearched H s = HoldNearest (facing s.direction H) s.within s.count s.targets.items s.buckets
