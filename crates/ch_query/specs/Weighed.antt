-- A hierarchy whose legs cost only their weights, as searches for distances see it, and the least weight that two
-- such searches know.
use Rattle.std.specs.Prelude.{◌≡◌, ℕ, ◌+◌, ◌≤◌, List, map, Option, Some}
use Rattle.ch_graph.specs.declared.limits.TheConstants.{MOST_WEIGHT}
use Rattle.ch_graph.specs.declared.cost.Cost.{Cost}
use Rattle.ch_graph.specs.Cost.{cost_at}
use Rattle.ch_hierarchy.specs.declared.leg.Leg.{Leg}
use Rattle.ch_hierarchy.specs.Hierarchy.{LevelsAndLegs}
use Rattle.ch_hierarchy.specs.declared.side.Side.{Side}
use Rattle.ch_hierarchy.specs.declared.side.Side.TheVariants.{Up, Down}
use Rattle.ch_hierarchy.specs.Side.{rows_of, other}
use Rattle.ch_query.specs.Distance.{IsKeptForSome, IsLeastWeight}
use Rattle.ch_query.specs.Search.{IsSettled, IsUpwardCost, IsSearch, IsStalled}

-- the weight alone
abbrev pub weighed_cost : Cost → Cost
weighed_cost c = record { weight = c.weight; arcs = 0 }

abbrev pub weighed_leg : Leg → Leg
weighed_leg l = record { node = l.node; cost = weighed_cost l.cost; middle = l.middle }

abbrev pub weighed : LevelsAndLegs → LevelsAndLegs
weighed H = record { level = H.level; up = map (map weighed_leg) H.up; down = map (map weighed_leg) H.down }

-- a search that stalls, by weights alone, for the paths from s that weigh at most `most`
abbrev pub IsWeightSearchTo : ℕ → LevelsAndLegs → Side → ℕ → List (Option Cost) → List (Option Cost) → Type 0
IsWeightSearchTo most H side s best queue =
    IsSearch most (rows_of (weighed H) side) s (IsStalled (rows_of (weighed H) side) (rows_of (weighed H) (other side)) s) best queue

-- such a search for all paths
abbrev pub IsWeightSearch : LevelsAndLegs → Side → ℕ → List (Option Cost) → List (Option Cost) → Type 0
IsWeightSearch = IsWeightSearchTo MOST_WEIGHT

-- the least weight is at most that of each node that both sides have settled
abbrev pub IsWeightSeen : (best_up queue_up best_down queue_down : List (Option Cost)) → Option ℕ → Type 0
IsWeightSeen best_up queue_up best_down queue_down least =
    (v : ℕ) (a b : Cost) → IsSettled best_up queue_up v a → IsSettled best_down queue_down v b →
    (e : ℕ) × (least ≡ Some e) × (e ≤ a.weight + b.weight)

-- the least weight is the weight of two paths that meet
abbrev pub IsWeightFound : LevelsAndLegs → ℕ → ℕ → Option ℕ → Type 0
IsWeightFound H s t least = (e : ℕ) → least ≡ Some e →
    (v : ℕ) × (a b : Cost) × IsUpwardCost (rows_of (weighed H) Up) s v a × IsUpwardCost (rows_of (weighed H) Down) t v b
    × (a.weight + b.weight ≡ e)

-- each remaining key weighs at least the least weight
abbrev pub IsPastWeight : List (Option Cost) → Option ℕ → Type 0
IsPastWeight queue least = (v : ℕ) (d : Cost) → cost_at queue v ≡ Some d → (e : ℕ) × (least ≡ Some e) × (e ≤ d.weight)

-- in a kept hierarchy, two searches by weights alone know the least weight once no remaining key is below it
abbrev pub WeightsAreEnough : Type 0
WeightsAreEnough = (H : LevelsAndLegs) (s t : ℕ) (least : Option ℕ) (best_up queue_up best_down queue_down : List (Option Cost)) →
    IsKeptForSome H →
    IsWeightSearch H Up s best_up queue_up → IsWeightSearch H Down t best_down queue_down →
    IsWeightSeen best_up queue_up best_down queue_down least →
    IsWeightFound H s t least → IsPastWeight queue_up least → IsPastWeight queue_down least → IsLeastWeight H s t least
