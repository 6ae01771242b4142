-- Arrays of legs before the first step, and after the last.
use Rattle.std.specs.Prelude.{◌≡◌, ℕ, ◌+◌, ◌<◌, ◌≤◌, ◌⊎◌, ◌==◌, ◌&&◌, nat_le, nat_lt, Bool, if◌then◌else◌, List, map, filter, slice_index}
use Rattle.std.specs.Prelude.{slice_set, None}
use Rattle.ch_graph.specs.declared.limits.TheConstants.{MOST_WEIGHT}
use Rattle.ch_graph.specs.declared.arc.InArc.{InArc}
use Rattle.ch_graph.specs.Graph.{Network}
use Rattle.ch_hierarchy.specs.declared.leg.Leg.{Leg}
use Rattle.ch_hierarchy.specs.Rows.{row}
use Rattle.ch_contract.specs.Legs.{Legs, arc_label_of, least_weight, turned_legs}
use Rattle.ch_custom.specs.Topologies.{IsMetric, AreMetricsAt}

-- the place of a node without a leg
abbrev pub no_leg : ℕ → Leg
no_leg node = record { node = node; cost = record { weight = MOST_WEIGHT + 1; arcs = 0 }; middle = None }

-- the leg, or that of an arc of this weight to `other` if it is at `other` and heavier
abbrev pub lightened : ℕ → ℕ → Leg → Leg
lightened other weight l = if l.node ==
    other && nat_lt weight l.cost.weight then record { node = l.node; cost = record { weight = weight; arcs = 1 }; middle = None } else l

-- there is a leg at this place
abbrev pub is_live : Leg → Bool
is_live l = nat_le l.cost.weight MOST_WEIGHT

-- the legs of the lightest of these arcs from each node to each node
abbrev pub legs_of : List InArc → Legs
legs_of arcs u w = arc_label_of (least_weight u w arcs)

-- the arrays have the legs of these arcs
abbrev pub AreOfArcs : ℕ → List ℕ → List (List ℕ) → List InArc → List (List Leg) → List (List Leg) → Type 0
AreOfArcs n order rows arcs ups downs = IsMetric n order rows (λ i. legs_of arcs) ups
    × IsMetric n order rows (λ i. turned_legs (legs_of arcs)) downs

-- the arc is put into the row of its lower end
abbrev pub IsPut : List ℕ → InArc → List (List Leg) → List (List Leg) → List (List Leg) → List (List Leg) → Type 0
IsPut levels a ups downs new_ups new_downs =
    ((slice_index levels a.from < slice_index levels a.to)
    × (new_ups ≡ slice_set ups a.from (map (lightened a.to a.weight) (row ups a.from))) × (new_downs ≡ downs))
    ⊎ ((slice_index levels a.to ≤ slice_index levels a.from) × (new_ups ≡ ups)
    × (new_downs ≡ slice_set downs a.to (map (lightened a.from a.weight) (row downs a.to))))

-- these are the legs of arrays from which all nodes are taken, without the places that have none
pub record AreLegsOfMetric (g : Network) (order : List ℕ) (rows : List (List ℕ)) (rows_up rows_down : List (List Leg)) : Type 0 where
  pub ups : List (List Leg)
  pub downs : List (List Leg)
  pub metric : AreMetricsAt g order rows g.nodes ups downs
  pub up : rows_up ≡ map (λ r. filter is_live r) ups
  pub down : rows_down ≡ map (λ r. filter is_live r) downs
