-- Laws of kept hierarchies: going up and then down in one corresponds to a walk of the graph.
use Rattle.std.specs.Prelude.{◌≡◌, ℕ, ◌≤◌, ◌⊎◌, ◌↔◌, List, Option}
use Rattle.ch_graph.specs.declared.limits.TheConstants.{MOST_WEIGHT}
use Rattle.ch_graph.specs.declared.cost.Cost.{Cost}
use Rattle.ch_graph.specs.Cost.{IsAtMost, cost_sum}
use Rattle.ch_graph.specs.Graph.{Network, IsWithinLimits}
use Rattle.ch_graph.specs.Walk.{IsDistance, IsLeast, IsUnreachable}
use Rattle.ch_graph.specs.WalkLaws.{IsWalkCost}
use Rattle.ch_hierarchy.specs.declared.leg.Leg.{Leg}
use Rattle.ch_hierarchy.specs.Hierarchy.{LevelsAndLegs}
use Rattle.ch_hierarchy.specs.Paths.{IsUpwardPath, path_cost, IsUp, IsDown, IsMeeting, IsMeet, NeverMeets}
use Rattle.ch_hierarchy.specs.Kept.{IsLeg, IsKept}

-- the paths of the hierarchy are walks, and each least walk is matched by two paths that meet
pub record HasWalks (g : Network) (H : LevelsAndLegs) : Type 0 where
  pub rises : (a b : ℕ) (legs : List Leg) → IsUpwardPath H.up a b legs → IsWalkCost g a b (path_cost legs)
  pub falls : (a b : ℕ) (legs : List Leg) → IsUpwardPath H.down a b legs → IsWalkCost g b a (path_cost legs)
  pub meets : (s t : ℕ) (c : Cost) → IsLeast g s t c →
      (m : ℕ) × (ups downs : List Leg) × IsUpwardPath H.up s m ups × IsUpwardPath H.down t m downs
      × IsAtMost (cost_sum (path_cost ups) (path_cost downs)) c × (c.weight ≤ MOST_WEIGHT)
  pub decided : (s t : ℕ) → ((c : Cost) × IsLeast g s t c) ⊎ IsUnreachable g s t

-- each kept hierarchy of a graph within the limits has this
abbrev pub KeptHierarchiesHaveWalks : Type 0
KeptHierarchiesHaveWalks = (g : Network) (H : LevelsAndLegs) → IsWithinLimits g → IsKept g H → HasWalks g H

-- each leg stands for a walk of exactly its cost
abbrev pub LegsAreWalks : Type 0
LegsAreWalks =
    (g : Network) (H : LevelsAndLegs) → IsKept g H → (u w : ℕ) (c : Cost) (middle : Option ℕ) → IsLeg H u w c middle → IsWalkCost g u w c

-- c is the least cost of going up from s to some node and down from there to t
pub record IsLeastMeeting (H : LevelsAndLegs) (s t : ℕ) (c : Cost) : Type 0 where
  pub meets : (m : ℕ) × IsMeeting H s t m c
  pub least : (m : ℕ) (d : Cost) → IsMeeting H s t m d → IsAtMost c d

-- the least cost of going up and then down is the least cost of a walk, and both exist in the same cases
pub record MeetingsAreDistances (g : Network) (H : LevelsAndLegs) : Type 0 where
  pub least : (s t : ℕ) (c : Cost) → IsLeast g s t c ↔ IsLeastMeeting H s t c
  pub meet : (s t m : ℕ) (c : Cost) → IsMeet H s t m c → IsLeast g s t c
  pub distance : (s t x : ℕ) → IsDistance g s t x ↔ ((c : Cost) × IsLeastMeeting H s t c × (c.weight ≡ x))
  pub never : (s t : ℕ) → IsUnreachable g s t ↔ NeverMeets H s t

-- this holds in each kept hierarchy of a graph within the limits
abbrev pub KeptHierarchiesGiveDistances : Type 0
KeptHierarchiesGiveDistances = (g : Network) (H : LevelsAndLegs) → IsWithinLimits g → IsKept g H → MeetingsAreDistances g H

-- the legs from s to x begin an upward path from s that meets one from t, and both together have the least cost of a
-- walk
pub record IsTightUp (g : Network) (H : LevelsAndLegs) (s t x : ℕ) (legs : List Leg) : Type 0 where
  pub m : ℕ
  pub onward : List Leg
  pub downs : List Leg
  pub cost : Cost
  pub least : IsLeast g s t cost
  pub rise : IsUpwardPath H.up s x legs × IsUpwardPath H.up x m onward
  pub fall : IsUpwardPath H.down t m downs
  pub cheap : IsAtMost (cost_sum (cost_sum (path_cost legs) (path_cost onward)) (path_cost downs)) cost

-- the legs from t to x begin an upward path from t that meets one from s, and both together have the least cost of a
-- walk
pub record IsTightDown (g : Network) (H : LevelsAndLegs) (s t x : ℕ) (legs : List Leg) : Type 0 where
  pub m : ℕ
  pub onward : List Leg
  pub ups : List Leg
  pub cost : Cost
  pub least : IsLeast g s t cost
  pub rise : IsUpwardPath H.up s m ups
  pub fall : IsUpwardPath H.down t x legs × IsUpwardPath H.down x m onward
  pub cheap : IsAtMost (cost_sum (path_cost ups) (cost_sum (path_cost legs) (path_cost onward))) cost

-- such legs cost the least of all upward paths to x, and their cost is the least cost of a walk
pub record TightPathsAreLeast (g : Network) (H : LevelsAndLegs) : Type 0 where
  pub up : (s t x : ℕ) (legs : List Leg) → IsTightUp g H s t x legs → IsUp H s x (path_cost legs) × IsLeast g s x (path_cost legs)
  pub down : (s t x : ℕ) (legs : List Leg) → IsTightDown g H s t x legs → IsDown H x t (path_cost legs) × IsLeast g x t (path_cost legs)

-- this holds in each kept hierarchy of a graph within the limits
abbrev pub KeptHierarchiesAreTight : Type 0
KeptHierarchiesAreTight = (g : Network) (H : LevelsAndLegs) → IsWithinLimits g → IsKept g H → TightPathsAreLeast g H
