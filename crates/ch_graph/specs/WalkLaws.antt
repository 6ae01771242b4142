-- Laws of walks, and of the least costs of walks.
use Rattle.std.specs.Prelude.{◌≡◌, ◌≢◌, ℕ, ◌<◌, ◌≤◌, ◌⊎◌, List, [], ◌∷◌, ◌++◌, length}
use Rattle.std.specs.List.{AllByRecursion}
use Rattle.ch_graph.specs.declared.limits.TheConstants.{MOST_WEIGHT}
use Rattle.ch_graph.specs.declared.arc.InArc.{InArc}
use Rattle.ch_graph.specs.declared.cost.Cost.{Cost}
use Rattle.ch_graph.specs.Cost.{IsAtMost, IsBelow, cost_sum}
use Rattle.ch_graph.specs.Graph.{Network, IsWithinLimits}
use Rattle.ch_graph.specs.Walk.{IsWalk, weight_of, cost_of, IsDistance, IsLeast, IsUnreachable}

-- c is the cost of a walk from s to t
abbrev pub IsWalkCost : Network → ℕ → ℕ → Cost → Type 0
IsWalkCost g s t c = (arcs : List InArc) × IsWalk g s t arcs × (cost_of arcs ≡ c)

-- the cost of a walk of this arc alone
abbrev pub arc_cost : InArc → Cost
arc_cost a = record { weight = a.weight; arcs = 1 }

-- a walk to t visits no node twice: no arc begins at t, and no two arcs begin at the same node
abbrev pub IsSimple : ℕ → List InArc → Type 0
IsSimple t [] = Unit {0}
IsSimple t (a ∷ arcs) = (a.from ≢ t) × AllByRecursion (λ b. b.from ≢ a.from) arcs × IsSimple t arcs

-- a walk and a walk from its end make a walk, each walk can be cut at any place, and costs add up
pub record WalksAddUp (g : Network) : Type 0 where
  pub joined : (s m t : ℕ) (xs ys : List InArc) → IsWalk g s m xs → IsWalk g m t ys → IsWalk g s t (xs ++ ys)
  pub parted : (s t : ℕ) (xs ys : List InArc) → IsWalk g s t (xs ++ ys) → (m : ℕ) × IsWalk g s m xs × IsWalk g m t ys
  pub costs : (xs ys : List InArc) → cost_of (xs ++ ys) ≡ cost_sum (cost_of xs) (cost_of ys)

-- a walk without the arcs between two visits to one node has the same ends, and costs less
abbrev pub LoopsCost : Network → Type 0
LoopsCost g = (s m t : ℕ) (xs ys zs : List InArc) → IsWalk g s m xs → IsWalk g m m ys → 0 < length ys → IsWalk g m t zs →
    IsWalk g s t (xs ++ zs) × IsBelow (cost_of (xs ++ zs)) (cost_of (xs ++ (ys ++ zs)))

-- for each walk there is a simple one of no greater cost; within the limits, simple walks are short and light
pub record SimpleWalksAreEnough (g : Network) : Type 0 where
  pub simple : (s t : ℕ) (xs : List InArc) → IsWalk g s t xs →
      (ys : List InArc) × IsWalk g s t ys × IsSimple t ys × IsAtMost (cost_of ys) (cost_of xs)
  pub few_arcs : IsWithinLimits g → (s t : ℕ) (xs : List InArc) → t < g.nodes → IsWalk g s t xs → IsSimple t xs → length xs < g.nodes
  pub light : IsWithinLimits g → (s t : ℕ) (xs : List InArc) → IsWalk g s t xs → IsSimple t xs → weight_of xs ≤ MOST_WEIGHT

-- between two nodes there is one least cost of a walk, or no walk; its weight is the distance
pub record LeastCostsAreFound (g : Network) : Type 0 where
  pub decided : (s t : ℕ) → ((c : Cost) × IsLeast g s t c) ⊎ IsUnreachable g s t
  pub one : (s t : ℕ) (c d : Cost) → IsLeast g s t c → IsLeast g s t d → c ≡ d
  pub distance : (s t : ℕ) (c : Cost) → IsLeast g s t c → IsDistance g s t c.weight
  pub of_distance : (s t x : ℕ) → IsDistance g s t x → (c : Cost) × IsLeast g s t c × (c.weight ≡ x)

-- each part of a walk of least cost has least cost, and such a walk is simple
pub record LeastWalksAreSimple (g : Network) : Type 0 where
  pub parts : (s m t : ℕ) (a b : Cost) → IsLeast g s t (cost_sum a b) → IsWalkCost g s m a → IsWalkCost g m t b →
      IsLeast g s m a × IsLeast g m t b
  pub simple : (s t : ℕ) (xs : List InArc) → IsLeast g s t (cost_of xs) → IsWalk g s t xs → IsSimple t xs
  pub few_arcs : IsWithinLimits g → (s t : ℕ) (c : Cost) → t < g.nodes → IsLeast g s t c → c.arcs < g.nodes
  pub light : IsWithinLimits g → (s t : ℕ) (c : Cost) → IsLeast g s t c → c.weight ≤ MOST_WEIGHT
