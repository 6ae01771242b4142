-- The way of a pair that was found: it is listed, or goes over two branches.
use Rattle.std.specs.Prelude.{ℕ, ◌<◌, ◌++◌, ⊤, Bool, true, List, length}
use Rattle.ch_hierarchy.specs.Hierarchy.{LevelsAndLegs}
use Rattle.ch_flows.specs.declared.gathering.Branch.{Branch}
use Rattle.ch_flows.specs.declared.meeting.Found.{Found}
use Rattle.ch_flows.specs.declared.plan.Link.{Link}
use Rattle.ch_flows.specs.Gathering.{way_of}
use Rattle.ch_flows.specs.Plans.{IsWayFound}

-- the places of its legs
abbrev pub legs_of : List Branch → List Branch → List ℕ → Found → List ℕ
legs_of row columns listed (Found.Between up down) = way_of row up ++ way_of columns down
legs_of row columns listed (Found.Listed found) = listed

-- whether there is one
abbrev pub is_way : Found → Bool
is_way (Found.Between up down) = true
is_way (Found.Listed found) = found

-- the branches are there
abbrev pub AreWithin : List Branch → List Branch → Found → Type 0
AreWithin row columns (Found.Between up down) = (up < length row) × (down < length columns)
AreWithin row columns (Found.Listed found) = ⊤

-- the way from s to t, over branches of a row and of columns
pub record IsFound (H : LevelsAndLegs) (links : List Link) (row columns : List Branch) (s t : ℕ) (listed : List ℕ)
    (found : Found) : Type 0 where
  pub within : AreWithin row columns found
  pub way : IsWayFound H links s t (legs_of row columns listed found) (is_way found)
