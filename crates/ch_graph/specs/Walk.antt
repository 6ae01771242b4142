-- A walk is a list of arcs. Each arc begins where the one before it ends.
use Rattle.std.specs.Prelude.{◌≡◌, ℕ, ◌≤◌, List, [], ◌∷◌, length, Contains, Option, MatchOption}
use Rattle.std.specs.List.{sum_by}
use Rattle.ch_graph.specs.declared.arc.InArc.{InArc}
use Rattle.ch_graph.specs.declared.cost.Cost.{Cost}
use Rattle.ch_graph.specs.Cost.{IsAtMost}
use Rattle.ch_graph.specs.Graph.{Network}

-- the arcs lead from s to t; the empty walk leads from s to s
abbrev pub IsWalk : Network → ℕ → ℕ → List InArc → Type 0
IsWalk g s t [] = s ≡ t
IsWalk g s t (a ∷ arcs) = Contains g.arcs a × (a.from ≡ s) × IsWalk g a.to t arcs

-- the sum of the weights
abbrev pub weight_of : List InArc → ℕ
weight_of arcs = sum_by (λ a. a.weight) arcs

-- the sum of the weights and the number of arcs
abbrev pub cost_of : List InArc → Cost
cost_of arcs = record { weight = weight_of arcs; arcs = length arcs }

-- x is the least weight of a walk from s to t
pub record IsDistance (g : Network) (s t x : ℕ) : Type 0 where
  pub walk : (arcs : List InArc) × IsWalk g s t arcs × (weight_of arcs ≡ x)
  pub least : (arcs : List InArc) → IsWalk g s t arcs → x ≤ weight_of arcs

-- c is the least cost of a walk from s to t
pub record IsLeast (g : Network) (s t : ℕ) (c : Cost) : Type 0 where
  pub walk : (arcs : List InArc) × IsWalk g s t arcs × (cost_of arcs ≡ c)
  pub least : (arcs : List InArc) → IsWalk g s t arcs → IsAtMost c (cost_of arcs)

-- no walk leads from s to t
abbrev pub IsUnreachable : Network → ℕ → ℕ → Type 0
IsUnreachable g s t = (arcs : List InArc) → IsWalk g s t arcs → ⊥

-- the distance from s to t, or none if no walk leads there
abbrev pub IsAnswer : Network → ℕ → ℕ → Option ℕ → Type 0
IsAnswer g s t answer = MatchOption answer (IsUnreachable g s t) (λ x. IsDistance g s t x)
