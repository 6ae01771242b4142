-- Ways up and down within a bound.
use Rattle.std.specs.Prelude.{◌≡◌, ◌≢◌, ℕ, ◌<◌, Contains, List, Option, Some}
use Rattle.ch_graph.specs.declared.cost.Cost.{Cost}
use Rattle.ch_graph.specs.Cost.{IsAtMost, IsBelow, cost_sum, cost_at}
use Rattle.ch_hierarchy.specs.Hierarchy.{LevelsAndLegs, nodes_of}
use Rattle.ch_hierarchy.specs.Kept.{MeetsWithin, IsCovered}
use Rattle.ch_hierarchy.specs.declared.leg.Leg.{Leg}
use Rattle.ch_hierarchy.specs.Rows.{row}

-- for each leg b up from v to another node than that of a, going up and down between these costs no more than a and b
abbrev pub IsCoveredFrom : LevelsAndLegs → ℕ → Leg → Type 0
IsCoveredFrom H v a = (b : Leg) → Contains (row H.up v) b → a.node ≢ b.node → MeetsWithin H a.node b.node (cost_sum a.cost b.cost)

-- the first node with a pair of legs through it that is not covered
pub record IsFirstUncovered (H : LevelsAndLegs) (v : ℕ) : Type 0 where
  pub within : v < nodes_of H
  pub fails : IsCovered H v → ⊥
  pub first : (u : ℕ) → u < v → IsCovered H u

-- each key is more than this cost
abbrev pub IsPastCost : List (Option Cost) → Cost → Type 0
IsPastCost queue most = (v : ℕ) (d : Cost) → cost_at queue v ≡ Some d → IsBelow most d

-- there is a sum, and it is at most this
abbrev pub IsSumWithin : Option (Cost × ℕ) → Cost → Type 0
IsSumWithin least most = (e : Cost × ℕ) × (least ≡ Some e) × IsAtMost e.0 most
