-- For each reached node, the least numbered node before it on a least path.
use Rattle.std.specs.Prelude.{◌≡◌, ◌≢◌, ℕ, ◌+◌, ◌≤◌, ◌⊎◌, List, length, slice_index, Contains, Option, Some}
use Rattle.ch_graph.specs.declared.cost.Cost.{Cost}
use Rattle.ch_graph.specs.Cost.{cost_sum, cost_at}
use Rattle.ch_hierarchy.specs.declared.leg.Leg.{Leg}
use Rattle.ch_hierarchy.specs.Rows.{row}
use Rattle.ch_hierarchy.specs.Paths.{IsLeastUpwardPath}
use Rattle.ch_query.specs.Search.{IsSettled}

-- p is settled at some cost, and a leg from p gives x its cost
pub record IsParent (rows : List (List Leg)) (best queue : List (Option Cost)) (x : ℕ) (e : Cost) (p : ℕ) : Type 0 where
  pub cost : Cost
  pub settled : IsSettled best queue p cost
  pub leg : Leg
  pub has : Contains (row rows p) leg
  pub node : leg.node ≡ x
  pub sum : cost_sum cost leg.cost ≡ e

-- if the leg l from u gives its end the cost of that end, the parent of that end is at most u
abbrev pub IsNoEarlier : ℕ → List (Option Cost) → List ℕ → ℕ → Cost → Leg → Type 0
IsNoEarlier most best parents u c l =
    c.weight + l.cost.weight ≤ most → cost_at best l.node ≡ Some (cost_sum c l.cost) → slice_index parents l.node ≤ u

-- each reached node except the source has a parent, and no settled node of a lesser number gives it its cost
pub record AreParents (most : ℕ) (rows : List (List Leg)) (s : ℕ) (Idle : ℕ → Cost → Type 0) (best queue : List (Option Cost))
    (parents : List ℕ) : Type 0 where
  pub size : length parents ≡ length best
  pub led : (x : ℕ) (e : Cost) → x ≢ s → cost_at best x ≡ Some e → IsParent rows best queue x e (slice_index parents x)
  pub first : (u : ℕ) (c : Cost) → IsSettled best queue u c →
      Idle u c ⊎ ((l : Leg) → Contains (row rows u) l → IsNoEarlier most best parents u c l)

-- l leads up from u to x, and is the last leg of a least path from a
abbrev pub IsLast : List (List Leg) → ℕ → ℕ → ℕ → Leg → Type 0
IsLast rows a x u l = Contains (row rows u) l × (l.node ≡ x) × (before : Cost) × IsLeastUpwardPath rows a u before
    × IsLeastUpwardPath rows a x (cost_sum before l.cost)

-- u is the least numbered node with such a leg
pub record IsChosen (rows : List (List Leg)) (a x u : ℕ) (l : Leg) : Type 0 where
  pub last : IsLast rows a x u l
  pub least : (w : ℕ) (k : Leg) → IsLast rows a x w k → u ≤ w
