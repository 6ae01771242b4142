-- Where the legs of a hierarchy stand in one list, from the highest node down.
use Rattle.std.specs.Prelude.{◌≡◌, ℕ, ◌+◌, ◌*◌, ◌<◌, List, length, slice_index, slice_index_or, Option, None, MatchOption}
use Rattle.ch_hierarchy.specs.declared.leg.Leg.{Leg}
use Rattle.ch_hierarchy.specs.Rows.{row}
use Rattle.ch_hierarchy.specs.Hierarchy.{LevelsAndLegs, nodes_of}
use Rattle.ch_hierarchy.specs.Ranked.{rank_of}
use Rattle.ch_hierarchy.specs.declared.side.Side.{Side}
use Rattle.ch_hierarchy.specs.Side.{rows_of, state_of}
use Rattle.ch_flows.specs.declared.plan.Link.{Link}
use Rattle.ch_flows.specs.Links.{AreHalvesOf, link_at}
use Rattle.ch_flows.specs.declared.handing.Halves.{Halves}

-- leg k of a row
abbrev pub leg_on : List Leg → ℕ → Leg
leg_on legs k = slice_index_or legs k (record { node = 0; cost = record { weight = 0; arcs = 0 }; middle = None })

abbrev pub link_of : Side → ℕ → Leg → Link
link_of side v leg = record { side = side; low = v; leg = leg }

-- the number of a node in a direction
abbrev pub state_at : LevelsAndLegs → Side → ℕ → ℕ
state_at H side v = state_of side (rank_of H v)

-- v has a leg k in this direction, and its number is below n
pub record IsSpot (H : LevelsAndLegs) (n : ℕ) (side : Side) (v k : ℕ) : Type 0 where
  pub node : v < nodes_of H
  pub state : state_at H side v < n
  pub leg : k < length (row (rows_of H side) v)

-- the place of that leg
abbrev pub place_of : LevelsAndLegs → List ℕ → Side → ℕ → ℕ → ℕ
place_of H starts side v k = slice_index starts (state_at H side v) + k

-- a place has such a leg
pub record HasSpot (H : LevelsAndLegs) (starts : List ℕ) (n i : ℕ) : Type 0 where
  pub side : Side
  pub node : ℕ
  pub place : ℕ
  pub spot : IsSpot H n side node place
  pub is : i ≡ place_of H starts side node place

-- the legs of the first n rows stand one after the other
pub record IsLaid (H : LevelsAndLegs) (starts : List ℕ) (links : List Link) (n : ℕ) : Type 0 where
  pub count : length starts ≡ n
  pub within : (side : Side) (v k : ℕ) → IsSpot H n side v k → place_of H starts side v k < length links
  pub each : (side : Side) (v k : ℕ) → IsSpot H n side v k →
      link_at links (place_of H starts side v k) ≡ link_of side v (leg_on (row (rows_of H side) v) k)
  pub found : (i : ℕ) → i < length links → HasSpot H starts n i
  pub order : (side : Side) (v k r : ℕ) → IsSpot H n side v k → state_at H side v < r → r < n →
      place_of H starts side v k < slice_index starts r

-- the place of the leg of v to or from x
pub record IsPlaceOf (H : LevelsAndLegs) (starts : List ℕ) (side : Side) (v x result : ℕ) : Type 0 where
  pub place : ℕ
  pub spot : IsSpot H (2 * nodes_of H) side v place
  pub node : (leg_on (row (rows_of H side) v) place).node ≡ x
  pub is : result ≡ place_of H starts side v place

-- the places of the two legs that the leg at place i stands for, which come after it
pub record AreHalvesAfter (links : List Link) (i : ℕ) (two : Halves) : Type 0 where
  pub halves : AreHalvesOf links (link_at links i) two
  pub first : (i < two.first) × (two.first < length links)
  pub second : (i < two.second) × (two.second < length links)

abbrev pub IsPartOf : List Link → ℕ → Option Halves → Type 0
IsPartOf links i part = MatchOption part ((link_at links i).leg.middle ≡ None) (AreHalvesAfter links i)
