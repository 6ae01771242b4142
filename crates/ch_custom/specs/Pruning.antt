-- Exact pruning: legs that another way strictly beats go, but for those that are arcs.
use Rattle.std.specs.Prelude.{◌≡◌, ◌≢◌, ℕ, ◌<◌, ◌≤◌, ◌⊎◌, List, [], length, map, Contains, Option, Some, None, slice_index, slice_index_or}
use Rattle.std.specs.Prelude.{slice_set}
use Rattle.ch_graph.specs.declared.arc.InArc.{InArc}
use Rattle.ch_graph.specs.declared.cost.Cost.{Cost}
use Rattle.ch_graph.specs.Cost.{IsAtMost, cost_sum}
use Rattle.ch_graph.specs.Graph.{Network, IsWithinLimits}
use Rattle.ch_graph.specs.Walk.{IsLeast}
use Rattle.ch_graph.specs.WalkLaws.{arc_cost}
use Rattle.ch_hierarchy.specs.declared.leg.Leg.{Leg}
use Rattle.ch_hierarchy.specs.declared.side.Side.{Side}
use Rattle.ch_hierarchy.specs.declared.side.Side.TheVariants.{Up, Down}
use Rattle.ch_hierarchy.specs.Rows.{row}
use Rattle.ch_hierarchy.specs.Hierarchy.{LevelsAndLegs, IsLevelled}
use Rattle.ch_hierarchy.specs.Kept.{IsLeg, HasLegWithin, IsKept}
use Rattle.ch_contract.specs.Legs.{Label}
use Rattle.ch_custom.specs.declared.leg_pair.LegPair.{LegPair}
use Rattle.ch_custom.specs.Exact.{IsLeastAt, held, pair_at, taken_leg}
use Rattle.ch_custom.specs.LegPairs.{lightened_pair, pairs_row}
use Rattle.ch_custom.specs.Topologies.{IsCustomized}

-- this is an arc of the graph
abbrev pub IsArcLeg : Network → ℕ → ℕ → Cost → Option ℕ → Type 0
IsArcLeg g u w c m = (m ≡ None) × (c.arcs ≡ 1) × Contains g.arcs (record { from = u; to = w; weight = c.weight })

-- P has the legs of H that cost the least of all walks between their ends, and no others but arcs: for the ends of each
-- arc there is a leg that costs no more
pub record IsPruned (g : Network) (H P : LevelsAndLegs) : Type 0 where
  pub level : P.level ≡ H.level
  pub up : (v : ℕ) (l : Leg) → Contains (row H.up v) l → IsLeast g v l.node l.cost → Contains (row P.up v) l
  pub down : (v : ℕ) (l : Leg) → Contains (row H.down v) l → IsLeast g l.node v l.cost → Contains (row P.down v) l
  pub left : (u w : ℕ) (c : Cost) (m : Option ℕ) → IsLeg P u w c m → (IsLeg H u w c m × IsLeast g u w c) ⊎ IsArcLeg g u w c m
  pub arcs : (a : InArc) → Contains g.arcs a → a.from ≢ a.to → HasLegWithin P a

-- a pruned hierarchy is right for each graph that the hierarchy is right for
abbrev pub PrunedAreKept : Type 0
PrunedAreKept = (g : Network) (H P : LevelsAndLegs) → IsWithinLimits g → IsKept g H → IsLevelled P → IsPruned g H P → IsKept g P

-- this hierarchy, whose levels are these, is customized, and right for the graph
pub record HasCustomized (g : Network) (order levels : List ℕ) : Type 0 where
  pub hierarchy : LevelsAndLegs
  pub level : hierarchy.level ≡ levels
  pub customized : IsCustomized g order hierarchy
  pub levelled : IsLevelled hierarchy
  pub kept : IsKept g hierarchy

-- P is what pruning leaves of the customized hierarchy. There is one such hierarchy: each node has at most one leg to and from
-- another, and what IsPruned says of each pair of nodes leaves no choice
pub record IsCustomizedAndPruned (g : Network) (order : List ℕ) (P : LevelsAndLegs) : Type 0 where
  pub hierarchy : LevelsAndLegs
  pub customized : IsCustomized g order hierarchy
  pub whole : IsLevelled hierarchy
  pub levelled : IsLevelled P
  pub pruned : IsPruned g hierarchy P

-- the arc is one from v to x, or in the other direction one from x to v
abbrev pub IsArcAt : Side → ℕ → ℕ → InArc → Type 0
IsArcAt Up v x a = (a.from ≡ v) × (a.to ≡ x)
IsArcAt Down v x a = (a.from ≡ x) × (a.to ≡ v)

-- the leg is such an arc of the graph
abbrev pub IsArcLegAt : Network → Side → ℕ → ℕ → Label → Type 0
IsArcLegAt g Up v x l = IsArcLeg g v x l.cost l.middle
IsArcLegAt g Down v x l = IsArcLeg g x v l.cost l.middle

-- what is left of the leg between v and x: `taken` if that costs the least of all walks, and no other but an arc. For each of
-- these arcs it costs no more
pub record IsLeft (g : Network) (arcs : List InArc) (side : Side) (v x : ℕ) (taken leg : Option Label) : Type 0 where
  pub least : (l : Label) → taken ≡ Some l → IsLeastAt g side v x l.cost → leg ≡ Some l
  pub others : (l : Label) → leg ≡ Some l → ((taken ≡ Some l) × IsLeastAt g side v x l.cost) ⊎ IsArcLegAt g side v x l
  pub within : (a : InArc) → Contains arcs a → IsArcAt side v x a → (l : Label) × (leg ≡ Some l) × IsAtMost l.cost (arc_cost a)

-- each row has a pair for each pair of the topology, with what is left of its legs
pub record AreLeft (g : Network) (order : List ℕ) (rows : List (List ℕ)) (arcs : List InArc) (metric : List (List LegPair)) : Type 0 where
  pub size : length metric ≡ g.nodes
  pub ends : (i : ℕ) → i < g.nodes → map (λ p. p.node) (pairs_row metric (slice_index order i)) ≡ slice_index_or rows
      (slice_index order i) []
  pub each : (i : ℕ) → i < g.nodes → (side : Side) (k : ℕ) (d : LegPair) → k < length (pairs_row metric (slice_index order i)) →
      IsLeft g arcs side (slice_index order i) (pair_at (pairs_row metric (slice_index order i)) k d).node
      (taken_leg g order side i (pair_at (pairs_row metric (slice_index order i)) k d).node)
      (held side (pair_at (pairs_row metric (slice_index order i)) k d))

-- the arc is put into the row of its lower end
abbrev pub IsArcPut : List ℕ → InArc → List (List LegPair) → List (List LegPair) → Type 0
IsArcPut levels a old new =
    ((slice_index levels a.from < slice_index levels a.to)
    × (new ≡ slice_set old a.from (map (lightened_pair Up a.to a.weight) (pairs_row old a.from))))
    ⊎ ((slice_index levels a.to ≤ slice_index levels a.from)
    × (new ≡ slice_set old a.to (map (lightened_pair Down a.from a.weight) (pairs_row old a.to))))

-- x is a node that is higher than v
abbrev pub IsHigher : LevelsAndLegs → ℕ → ℕ → Type 0
IsHigher H v x = slice_index H.level v < slice_index H.level x

-- the least cost of a walk from v to x is that of a leg up to x, or of a leg up to another node y and of the least walk on
-- from y: so the least costs of a node follow from those between the higher ends of its legs
pub record IsByLeg (g : Network) (H : LevelsAndLegs) (v x : ℕ) (c : Cost) : Type 0 where
  pub leg : Leg
  pub first : Contains (row H.up v) leg
  pub rest : Cost
  pub onward : IsLeast g leg.node x rest
  pub sum : c ≡ cost_sum leg.cost rest

-- the same for the least walk from x to v, whose last part is a leg down to v
pub record IsByLegDown (g : Network) (H : LevelsAndLegs) (v x : ℕ) (c : Cost) : Type 0 where
  pub leg : Leg
  pub last : Contains (row H.down v) leg
  pub rest : Cost
  pub before : IsLeast g x leg.node rest
  pub sum : c ≡ cost_sum rest leg.cost

-- each least walk between a node and a higher one begins or ends with a leg of the lower node
pub record LeastWalksTakeLegs (g : Network) (H : LevelsAndLegs) : Type 0 where
  pub up : (v x : ℕ) (c : Cost) → IsHigher H v x → IsLeast g v x c → IsByLeg g H v x c
  pub down : (v x : ℕ) (c : Cost) → IsHigher H v x → IsLeast g x v c → IsByLegDown g H v x c

-- this holds in each kept hierarchy of a graph within the limits
abbrev pub KeptHierarchiesTakeLegs : Type 0
KeptHierarchiesTakeLegs = (g : Network) (H : LevelsAndLegs) → IsWithinLimits g → IsKept g H → LeastWalksTakeLegs g H
