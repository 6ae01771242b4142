-- The label of each node in a search: a cost or none, and a parent.
use Rattle.std.specs.Prelude.{ℕ, ◌+◌, ◌*◌, ◌==◌, ltb, if◌then◌else◌, List, Option, Some, None}
use Rattle.ch_graph.specs.declared.cost.Cost.{Cost}
use Rattle.ch_query.specs.declared.sides.labels.Label.{Label}
use Rattle.ch_query.specs.declared.sides.labels.TheConstants.{NO_WEIGHT, MANY}

-- labels as contracts see them: by node a cost, if the node is reached, and a parent
pub record CostsAndParents : Type 0 where
  pub costs : List (Option Cost)
  pub parents : List ℕ

-- the number of arcs of a label and its multiple; the multiple counts only if the label has many arcs
abbrev pub arcs_of : ℕ → ℕ → ℕ
arcs_of arcs multiple = if ltb arcs MANY then arcs else arcs + multiple * MANY

-- the cost of a label and its multiple, or none if it has the weight of no path
abbrev pub cost_of : Label × ℕ → Option Cost
cost_of l = if l.0.weight == NO_WEIGHT then None else Some (record { weight = l.0.weight; arcs = arcs_of l.0.arcs l.1 })
