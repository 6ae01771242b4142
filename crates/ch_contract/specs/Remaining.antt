-- The legs among the remaining nodes, as contracts see them.
use Rattle.std.specs.Prelude.{◌≡◌, ◌≢◌, ℕ, List, length}
use Rattle.ch_hierarchy.specs.declared.leg.Leg.{Leg}
use Rattle.ch_contract.specs.Legs.{Legs}
use Rattle.ch_hierarchy.specs.Rows.{row}
use Rattle.ch_contract.specs.LegRows.{row_leg, AreLegsFrom}

-- the number of nodes of the input graph; for each node the remaining legs from it, and the legs from it and to it when
-- it was contracted
pub record RemainingLegs : Type 0 where
  pub nodes : ℕ
  pub rows : List (List Leg)
  pub ups : List (List Leg)
  pub downs : List (List Leg)

-- the legs from v are set aside, and the legs set aside of all other nodes stay
pub record IsSetAside (L : Legs) (v : ℕ) (old new : List (List Leg)) : Type 0 where
  pub size : length new ≡ length old
  pub legs : AreLegsFrom L v (row new v)
  pub kept : (x : ℕ) → x ≢ v → row new x ≡ row old x

-- the remaining legs
unfoldable pub legs_of : RemainingLegs → Legs
legs_of r u w = row_leg (row r.rows u) w
