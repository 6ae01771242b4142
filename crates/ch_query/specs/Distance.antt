-- The distance by a hierarchy.
use Rattle.std.specs.Prelude.{◌≡◌, ℕ, Option, MatchOption}
use Rattle.ch_graph.specs.declared.cost.Cost.{Cost}
use Rattle.ch_graph.specs.Graph.{Network, IsWithinLimits}
use Rattle.ch_graph.specs.Walk.{IsAnswer}
use Rattle.ch_hierarchy.specs.Hierarchy.{LevelsAndLegs}
use Rattle.ch_hierarchy.specs.Paths.{NeverMeets}
use Rattle.ch_hierarchy.specs.Kept.{IsKept}
use Rattle.ch_hierarchy.specs.KeptLaws.{IsLeastMeeting}

-- the hierarchy is right for some graph
abbrev pub IsKeptForSome : LevelsAndLegs → Type 0
IsKeptForSome H = (g : Network) × IsWithinLimits g × IsKept g H

-- the distance from s to t in each graph that the hierarchy is right for, or none if there is no walk
abbrev pub IsDistanceBy : LevelsAndLegs → ℕ → ℕ → Option ℕ → Type 0
IsDistanceBy H s t answer = (g : Network) → IsWithinLimits g → IsKept g H → IsAnswer g s t answer

-- the weight of the least cost of going up from s and down to t, or none if no node is reached from both
abbrev pub IsLeastWeight : LevelsAndLegs → ℕ → ℕ → Option ℕ → Type 0
IsLeastWeight H s t answer = MatchOption answer (NeverMeets H s t) (λ x. (c : Cost) × IsLeastMeeting H s t c × (c.weight ≡ x))
