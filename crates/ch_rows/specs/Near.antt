-- The targets that are nearest to a source.
use Rattle.std.specs.Prelude.{ℕ, ◌<◌, List, length, slice_index, Option, Some}
use Rattle.ch_graph.specs.Graph.{Network}
use Rattle.ch_graph.specs.Walk.{IsDistance}
use Rattle.ch_hierarchy.specs.Hierarchy.{LevelsAndLegs}
use Rattle.ch_query.specs.Limits.{IsWithin, IsDistanceWithin}
use Rattle.ch_hierarchy.specs.declared.direction.Direction.{Direction}
use Rattle.ch_hierarchy.specs.declared.direction.Direction.TheVariants.{To, From}
use Rattle.ch_rows.specs.First.{AreFirst}

-- the least weight of a walk from the source to the target, or from the target to the source
abbrev pub IsDistanceIn : Network → Direction → ℕ → ℕ → ℕ → Type 0
IsDistanceIn g To s t x = IsDistance g s t x
IsDistanceIn g From s t x = IsDistance g t s x

-- the weight is the least of a walk between s and the target at this place, in this direction, and it is within the
-- limit
abbrev pub IsWalkTo : Network → Direction → Option ℕ → List ℕ → ℕ → ℕ × ℕ → Type 0
IsWalkTo g direction limit targets s e =
    (e.1 < length targets) × IsDistanceIn g direction s (slice_index targets e.1) e.0 × IsWithin limit e.0

-- the targets whose least weight of a walk is within the limit, each as that weight and its place. The row has the
-- first `count` in order of weight and then of place, or all without such a number
abbrev pub IsNearestRow : Network → Direction → Option ℕ → Option ℕ → List ℕ → ℕ → List (ℕ × ℕ) → Type 0
IsNearestRow g direction limit count targets s row = AreFirst count (IsWalkTo g direction limit targets s) row

-- the same by a hierarchy: the weight is the distance from s to the target at this place, within the limit
abbrev pub IsDistanceTo : LevelsAndLegs → Option ℕ → List ℕ → ℕ → ℕ × ℕ → Type 0
IsDistanceTo H limit targets s e = (e.1 < length targets) × IsDistanceWithin H limit s (slice_index targets e.1) (Some e.0)

abbrev pub IsNearRow : LevelsAndLegs → Option ℕ → Option ℕ → List ℕ → ℕ → List (ℕ × ℕ) → Type 0
IsNearRow H limit count targets s row = AreFirst count (IsDistanceTo H limit targets s) row

-- what near rows are asked for: the hierarchy, the targets, the limit, and the greatest number of targets
pub record Wanted : Type 0 where
  pub hierarchy : LevelsAndLegs
  pub targets : List ℕ
  pub limit : Option ℕ
  pub count : Option ℕ

-- this is the wanted near row of s
abbrev pub IsWantedRow : Wanted → ℕ → List (ℕ × ℕ) → Type 0
IsWantedRow wanted s row = IsNearRow wanted.hierarchy wanted.limit wanted.count wanted.targets s row

-- the same within another limit
abbrev pub wanted_within : Wanted → Option ℕ → Wanted
wanted_within wanted limit = record { hierarchy = wanted.hierarchy; targets = wanted.targets; limit = limit; count = wanted.count }
