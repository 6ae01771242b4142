-- Answers within a limit. A limit is a greatest weight, or none.
use Rattle.std.specs.Prelude.{◌≡◌, ℕ, ◌≤◌, Option, Some, None, ⊤}
use Rattle.ch_graph.specs.declared.limits.TheConstants.{MOST_WEIGHT}
use Rattle.ch_hierarchy.specs.Hierarchy.{LevelsAndLegs}
use Rattle.ch_query.specs.Distance.{IsDistanceBy, IsLeastWeight}

-- there is no limit, or the weight is at most the limit
abbrev pub IsWithin : Option ℕ → ℕ → Type 0
IsWithin None x = ⊤
IsWithin (Some most) x = x ≤ most

-- the most that a path within the limit may weigh
pub record IsMost (limit : Option ℕ) (most : ℕ) : Type 0 where
  pub limits : most ≤ MOST_WEIGHT
  pub sound : (x : ℕ) → x ≤ most → IsWithin limit x
  pub whole : (x : ℕ) → x ≤ MOST_WEIGHT → IsWithin limit x → x ≤ most

-- the weight, if there is one and it is within the limit, and otherwise none
abbrev pub IsCut : Option ℕ → Option ℕ → Option ℕ → Type 0
IsCut limit None answer = answer ≡ None
IsCut limit (Some x) answer = (IsWithin limit x → answer ≡ Some x) × ((IsWithin limit x → ⊥) → answer ≡ None)

-- the distance from s to t by the hierarchy, if it is within the limit, and otherwise none
pub record IsDistanceWithin (H : LevelsAndLegs) (limit : Option ℕ) (s t : ℕ) (answer : Option ℕ) : Type 0 where
  pub whole : Option ℕ
  pub least : IsLeastWeight H s t whole
  pub distance : IsDistanceBy H s t whole
  pub cut : IsCut limit whole answer
