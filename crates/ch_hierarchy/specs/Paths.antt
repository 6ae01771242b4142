-- Paths of rising level, and the nodes where paths from both ends meet.
use Rattle.std.specs.Prelude.{◌≡◌, ℕ, ◌≤◌, List, [], ◌∷◌, Contains}
use Rattle.std.specs.List.{sum_by}
use Rattle.ch_graph.specs.declared.limits.TheConstants.{MOST_WEIGHT}
use Rattle.ch_graph.specs.declared.cost.Cost.{Cost}
use Rattle.ch_graph.specs.Cost.{IsAtMost, cost_sum}
use Rattle.ch_hierarchy.specs.declared.leg.Leg.{Leg}
use Rattle.ch_hierarchy.specs.Rows.{row}
use Rattle.ch_hierarchy.specs.Hierarchy.{LevelsAndLegs}

-- the legs lead upward from a to b; along the up rows they lead from a to b, along the down rows back from b to a
abbrev pub IsUpwardPath : List (List Leg) → ℕ → ℕ → List Leg → Type 0
IsUpwardPath rows a b [] = a ≡ b
IsUpwardPath rows a b (l ∷ legs) = Contains (row rows a) l × IsUpwardPath rows l.node b legs

abbrev pub path_cost : List Leg → Cost
path_cost legs = record { weight = sum_by (λ l. l.cost.weight) legs; arcs = sum_by (λ l. l.cost.arcs) legs }

-- c is the least cost of an upward path that weighs at most MOST_WEIGHT
pub record IsLeastUpwardPath (rows : List (List Leg)) (a b : ℕ) (c : Cost) : Type 0 where
  pub path : (legs : List Leg) × IsUpwardPath rows a b legs × (path_cost legs ≡ c)
  pub weight : c.weight ≤ MOST_WEIGHT
  pub least : (legs : List Leg) → IsUpwardPath rows a b legs → (path_cost legs).weight ≤ MOST_WEIGHT → IsAtMost c (path_cost legs)

-- the least cost of going up from s to m
abbrev pub IsUp : LevelsAndLegs → ℕ → ℕ → Cost → Type 0
IsUp H s m c = IsLeastUpwardPath H.up s m c

-- the least cost of going down from m to t
abbrev pub IsDown : LevelsAndLegs → ℕ → ℕ → Cost → Type 0
IsDown H m t c = IsLeastUpwardPath H.down t m c

-- going up from s to m, and down from m to t, costs c
abbrev pub IsMeeting : LevelsAndLegs → ℕ → ℕ → ℕ → Cost → Type 0
IsMeeting H s t m c = (a b : Cost) × IsUp H s m a × IsDown H m t b × (cost_sum a b ≡ c)

-- the least numbered node with the least cost of going up to it and down from it
pub record IsMeet (H : LevelsAndLegs) (s t m : ℕ) (c : Cost) : Type 0 where
  pub meets : IsMeeting H s t m c
  pub least : (k : ℕ) (d : Cost) → IsMeeting H s t k d → IsAtMost c d × (d ≡ c → m ≤ k)

abbrev pub NeverMeets : LevelsAndLegs → ℕ → ℕ → Type 0
NeverMeets H s t = (k : ℕ) (d : Cost) → IsMeeting H s t k d → ⊥
