-- The tree of a hierarchy, and costs that one pass from a node up to the root finds. The place of a node is its rank and
-- one more; 0 is the place above each root.
use Rattle.std.specs.Prelude.{◌≡◌, ℕ, zero, suc, ◌+◌, ◌-◌, ◌<◌, ◌≤◌, ◌⊎◌, List, length, Contains, slice_index, slice_index_or, slice_set}
use Rattle.ch_graph.specs.declared.limits.TheConstants.{MOST_WEIGHT}
use Rattle.ch_hierarchy.specs.declared.leg.Leg.{Leg}
use Rattle.ch_hierarchy.specs.declared.ranked.RankedLeg.{RankedLeg}
use Rattle.ch_hierarchy.specs.declared.side.Side.{Side}
use Rattle.ch_hierarchy.specs.Rows.{row}
use Rattle.ch_hierarchy.specs.Hierarchy.{LevelsAndLegs, nodes_of}
use Rattle.ch_hierarchy.specs.Ranked.{rank_of}
use Rattle.ch_hierarchy.specs.Side.{rows_of}
use Rattle.ch_graph.specs.declared.cost.Cost.{Cost}
use Rattle.ch_hierarchy.specs.Paths.{IsUpwardPath, path_cost}
use Rattle.ch_query.specs.Search.{IsUpwardCost}
use Rattle.ch_query.specs.Weighed.{weighed}
use Rattle.ch_query.specs.Weights.{weight_cost}
use Rattle.ch_tree.specs.declared.sweep.TheConstants.{NEVER}

-- the place after k steps up from this place
abbrev pub climb : List ℕ → ℕ → ℕ → ℕ
climb parents zero place = place
climb parents (suc k) place = climb parents k (slice_index parents place)

-- going up from a place leads to x
abbrev pub IsAbove : List ℕ → ℕ → ℕ → Type 0
IsAbove parents place x = (k : ℕ) × (climb parents k place ≡ x)

abbrev pub place_of : LevelsAndLegs → ℕ → ℕ
place_of H v = rank_of H v + 1

-- each parent has a lesser place
abbrev pub AreFalling : List ℕ → Type 0
AreFalling parents = (place : ℕ) → slice_index parents place ≤ place - 1

-- each leg leads to an ancestor
pub record IsTree (H : LevelsAndLegs) (parents : List ℕ) : Type 0 where
  pub size : length parents ≡ nodes_of H + 1
  pub falls : AreFalling parents
  pub legs : (side : Side) (v : ℕ) (l : Leg) → v < nodes_of H → Contains (row (rows_of H side) v) l →
      IsAbove parents (place_of H v) (place_of H l.node)

-- the weight at a rank
abbrev pub weight_at : List ℕ → ℕ → ℕ
weight_at costs rank = slice_index_or costs rank NEVER

-- no weight is more than NEVER
abbrev pub AreSmall : List ℕ → Type 0
AreSmall costs = (x : ℕ) → weight_at costs x ≤ NEVER

-- there are n weights, and each is NEVER
pub record IsClean (n : ℕ) (costs : List ℕ) : Type 0 where
  pub size : length costs ≡ n
  pub none : (x : ℕ) → weight_at costs x ≡ NEVER

-- each weight that is known is of a place from this one up
abbrev pub AreKnownAbove : List ℕ → ℕ → List ℕ → Type 0
AreKnownAbove parents place costs = (x : ℕ) → (weight_at costs x ≡ NEVER) ⊎ IsAbove parents place (x + 1)

-- a rank was offered this weight: nothing changes if no less is known or it is above the limit
abbrev pub IsOffered : ℕ → ℕ → List ℕ → List ℕ → Type 0
IsOffered rank weight old new =
    ((new ≡ old) × (weight ≤ MOST_WEIGHT → weight_at old rank ≤ weight))
    ⊎ ((weight ≤ MOST_WEIGHT) × (weight < weight_at old rank) × (new ≡ slice_set old rank weight))

-- the end of each leg was offered the sum of this weight and that of the leg
pub record AreOffered (weight : ℕ) (legs : List RankedLeg) (old new : List ℕ) : Type 0 where
  pub size : length new ≡ length old
  pub less : (x : ℕ) → weight_at new x ≤ weight_at old x
  pub from : (x : ℕ) → (weight_at new x ≡ weight_at old x)
      ⊎ ((l : RankedLeg) × Contains legs l × (l.rank ≡ x) × (weight_at new x ≡ weight + l.weight) × (weight + l.weight ≤ MOST_WEIGHT))
  pub taken : (l : RankedLeg) → Contains legs l → weight + l.weight ≤ MOST_WEIGHT → weight_at new l.rank ≤ weight + l.weight

-- the pass from s has taken the legs of all nodes that are below this place and known to weigh less than the bound, and goes
-- on here: each known weight is that of a path up from s, and each that is not below this place is of an ancestor of it
pub record IsSweptTo (H : LevelsAndLegs) (side : Side) (parents : List ℕ) (s bound place : ℕ) (costs : List ℕ) : Type 0 where
  pub most : bound ≤ NEVER
  pub size : length costs ≡ nodes_of H
  pub within : place ≤ nodes_of H
  pub small : AreSmall costs
  pub start : weight_at costs (rank_of H s) ≡ 0
  pub here : IsAbove parents (place_of H s) place
  pub known : AreKnownAbove parents (place_of H s) costs
  pub sound : (v : ℕ) → v < nodes_of H → weight_at costs (rank_of H v) < NEVER →
      IsUpwardCost (rows_of (weighed H) side) s v (weight_cost (weight_at costs (rank_of H v)))
  pub ahead : (x : ℕ) → weight_at costs x < NEVER → x + 1 ≤ place → IsAbove parents place (x + 1)
  pub taken : (v : ℕ) (l : Leg) → v < nodes_of H → place < place_of H v → weight_at costs (rank_of H v) < bound →
      Contains (row (rows_of (weighed H) side) v) l →
      weight_at costs (rank_of H v) + l.cost.weight ≤ MOST_WEIGHT →
      weight_at costs (rank_of H l.node) ≤ weight_at costs (rank_of H v) + l.cost.weight

-- the same without a bound
abbrev pub IsSwept : LevelsAndLegs → Side → List ℕ → ℕ → ℕ → List ℕ → Type 0
IsSwept H side parents s place costs = IsSweptTo H side parents s NEVER place costs

-- the weights of the places that are not from this one up stay
abbrev pub StaysBelow : ℕ → List ℕ → List ℕ → Type 0
StaysBelow place old new = (x : ℕ) → place < x + 1 → weight_at new x ≡ weight_at old x

-- the least sum of the two weights of a place from this one up, or NEVER
pub record IsLeastSum (parents : List ℕ) (first : ℕ) (ups downs : List ℕ) (least : ℕ) : Type 0 where
  pub small : least ≤ NEVER
  pub seen : (x : ℕ) → IsAbove parents first (x + 1) → least ≤ weight_at ups x + weight_at downs x
  pub found : least < NEVER → (x : ℕ) × (x < length ups) × (weight_at ups x + weight_at downs x ≡ least)

-- the least sum of the places from `first` up that are not from `place` up
pub record IsSumSoFar (parents : List ℕ) (first place : ℕ) (ups downs : List ℕ) (least : ℕ) : Type 0 where
  pub here : IsAbove parents first place
  pub small : least ≤ NEVER
  pub seen : (x : ℕ) → IsAbove parents first (x + 1) → place < x + 1 → least ≤ weight_at ups x + weight_at downs x
  pub found : least < NEVER → (x : ℕ) × (place < x + 1) × (x < length ups) × (weight_at ups x + weight_at downs x ≡ least)

-- each place that is above both is above this one
abbrev pub AreCommonAbove : List ℕ → ℕ → ℕ → ℕ → Type 0
AreCommonAbove parents one two place = (x : ℕ) → IsAbove parents one x → IsAbove parents two x → IsAbove parents place x

-- the costs of the places that are not from this one up are removed
pub record IsCleared (parents : List ℕ) (place : ℕ) (old costs : List ℕ) : Type 0 where
  pub size : length costs ≡ length old
  pub within : place ≤ length old
  pub known : AreKnownAbove parents place costs

-- each known weight is that of a path up from s, and no path that weighs at most `most` weighs less; a node without a path has NEVER
pub record AreUpCosts (H : LevelsAndLegs) (side : Side) (s most : ℕ) (costs : List ℕ) : Type 0 where
  pub found : (v : ℕ) → v < nodes_of H → weight_at costs (rank_of H v) < NEVER → (c : Cost) × IsUpwardCost (rows_of H side) s v c
      × (c.weight ≡ weight_at costs (rank_of H v))
  pub least : (v : ℕ) (legs : List Leg) → v < nodes_of H → IsUpwardPath (rows_of H side) s v legs →
      (path_cost legs).weight ≤ most → weight_at costs (rank_of H v) ≤ (path_cost legs).weight
