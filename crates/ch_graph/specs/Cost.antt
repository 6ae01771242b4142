-- Costs: a weight and a number of arcs. They are compared by weight first, and added part by part.
use Rattle.std.specs.Prelude.{ℕ, ◌+◌, ◌^◌, ◌<◌, ◌≤◌, ◌⊎◌, List, slice_index_or, Option, None}
use Rattle.std.specs.Ordering.{ordering_then, nat_cmp}
use Rattle.std.specs.declared.cmp.Ordering.{Ordering}
use Rattle.ch_graph.specs.declared.cost.Cost.{Cost}

-- a costs at most b: it weighs no more, and at equal weight it has no more arcs
abbrev pub IsAtMost : Cost → Cost → Type 0
IsAtMost a b = (a.weight ≤ b.weight) × (b.weight ≤ a.weight → a.arcs ≤ b.arcs)

-- a costs less than b
abbrev pub IsBelow : Cost → Cost → Type 0
IsBelow a b = (a.weight ≤ b.weight) × (b.weight ≤ a.weight → a.arcs < b.arcs)

-- how a compares with b: by weight, and at equal weight by number of arcs
abbrev pub cost_cmp : Cost → Cost → Ordering
cost_cmp a b = ordering_then (nat_cmp a.weight b.weight) (nat_cmp a.arcs b.arcs)

-- the cost of a walk and a walk that follows it
abbrev pub cost_sum : Cost → Cost → Cost
cost_sum a b = record { weight = a.weight + b.weight; arcs = a.arcs + b.arcs }

-- the weights or the arcs of a and b add up to more than a word holds
abbrev pub IsSumTooLarge : Cost → Cost → Type 0
IsSumTooLarge a b = (2 ^ 64 ≤ a.weight + b.weight) ⊎ (2 ^ 64 ≤ a.arcs + b.arcs)

-- the cost of the empty walk
abbrev pub no_cost : Cost
no_cost = record { weight = 0; arcs = 0 }

-- the cost of v in a list of costs by node
abbrev pub cost_at : List (Option Cost) → ℕ → Option Cost
cost_at costs v = slice_index_or costs v None
