-- Perfect customization: legs are lowered to the least costs of walks, from the last node of the order back to the first.
use Rattle.std.specs.Prelude.{◌≡◌, ◌≢◌, ◌⊎◌, ℕ, ◌<◌, ◌≤◌, true, List, [], length, map, Contains, slice_index, slice_index_or, Option, Some}
use Rattle.ch_graph.specs.declared.cost.Cost.{Cost}
use Rattle.ch_graph.specs.Cost.{cost_sum}
use Rattle.ch_graph.specs.Graph.{Network}
use Rattle.ch_graph.specs.Walk.{IsLeast}
use Rattle.ch_graph.specs.WalkLaws.{IsWalkCost}
use Rattle.ch_hierarchy.specs.declared.side.Side.{Side}
use Rattle.ch_hierarchy.specs.declared.side.Side.TheVariants.{Up, Down}
use Rattle.ch_hierarchy.specs.Side.{other}
use Rattle.ch_contract.specs.Legs.{Label}
use Rattle.ch_custom.specs.declared.leg_pair.LegPair.{LegPair}
use Rattle.ch_custom.specs.declared.leg_pair.TheConstants.{BEATEN}
use Rattle.ch_custom.specs.Customizing.{is_cheaper, leg_over}
use Rattle.ch_custom.specs.Metric.{held_leg}
use Rattle.ch_custom.specs.LegPairs.{leg_of, pairs_row, AreHeld}
use Rattle.ch_custom.specs.Topologies.{legs_after}

-- a walk from v to x costs c, or in the other direction one from x to v
abbrev pub IsWalkAt : Network → Side → ℕ → ℕ → Cost → Type 0
IsWalkAt g Up v x c = IsWalkCost g v x c
IsWalkAt g Down v x c = IsWalkCost g x v c

-- c is the least cost of such a walk
abbrev pub IsLeastAt : Network → Side → ℕ → ℕ → Cost → Type 0
IsLeastAt g Up v x c = IsLeast g v x c
IsLeastAt g Down v x c = IsLeast g x v c

-- the leg of a pair in a direction, if there is one
abbrev pub held : Side → LegPair → Option Label
held side p = held_leg (leg_of side p)

-- a leg between v and x is a walk
abbrev pub IsSoundAt : Network → Side → ℕ → ℕ → Option Label → Type 0
IsSoundAt g side v x leg = (l : Label) → leg ≡ Some l → IsWalkAt g side v x l.cost

-- a leg between v and x has the least cost of a walk, if there is a walk
abbrev pub IsExactAt : Network → Side → ℕ → ℕ → Option Label → Type 0
IsExactAt g side v x leg = (c : Cost) → IsLeastAt g side v x c → (l : Label) × (leg ≡ Some l) × (l.cost ≡ c)

-- a leg is as it was, or it is beaten: it has the cost of a walk that costs less
abbrev pub IsShortened : Network → Side → ℕ → ℕ → Option Label → Option Label → Type 0
IsShortened g side v x old new = (new ≡ old)
    ⊎ ((l : Label) × (new ≡ Some l) × (l.middle ≡ Some BEATEN) × IsWalkAt g side v x l.cost × (is_cheaper l.cost old ≡ true))

-- if a least walk is these two legs, the leg costs what they cost
abbrev pub IsOver : Network → Side → ℕ → ℕ → Option Label → Option Label → Option Label → Type 0
IsOver g side v x first second leg = (a b : Label) → first ≡ Some a → second ≡ Some b →
    IsLeastAt g side v x (cost_sum a.cost b.cost) → (l : Label) × (leg ≡ Some l) × (l.cost ≡ cost_sum a.cost b.cost)

-- both legs of a pair are lowered to the sums of the legs of `first` and `second` in the same direction
abbrev pub IsPairShortened : ℕ → LegPair → LegPair → LegPair → LegPair → Type 0
IsPairShortened n first second old new =
    (side : Side) → held side new ≡ leg_over n BEATEN (held side first) (held side second) (held side old)

-- the pair at a place
abbrev pub pair_at : List LegPair → ℕ → LegPair → LegPair
pair_at row k d = slice_index_or row k d

-- all legs of a row can be added up
abbrev pub AreAllHeld : List LegPair → Type 0
AreAllHeld row = (k : ℕ) (d : LegPair) → k < length row → AreHeld (pair_at row k d)

-- the pairs to x and to y of one row are lowered over each other: `between` is the pair of x and y, in the row of x
pub record AreBothLowered (n : ℕ) (between : LegPair) (x y : ℕ) (old new : List LegPair) : Type 0 where
  pub size : length new ≡ length old
  pub nodes : (k : ℕ) (d : LegPair) → k < length old → (pair_at new k d).node ≡ (pair_at old k d).node
  pub near : (side : Side) (d : LegPair) →
      held side (pair_at new x d) ≡ leg_over n BEATEN (held side (pair_at old y d)) (held (other side) between) (held side
      (pair_at old x d))
  pub far : (side : Side) (d : LegPair) →
      held side (pair_at new y d) ≡ leg_over n BEATEN (held side (pair_at old x d)) (held side between) (held side (pair_at old y d))
  pub kept : (k : ℕ) (d : LegPair) → k ≢ x → k ≢ y → pair_at new k d ≡ pair_at old k d
  pub held : AreAllHeld new

-- the row of v is in order, and its legs are walks that can be added up
pub record IsSoundRow (g : Network) (v : ℕ) (row : List LegPair) : Type 0 where
  pub sorted : (k j : ℕ) (d e : LegPair) → k < j → j < length row → (pair_at row k d).node < (pair_at row j e).node
  pub walks : (side : Side) (k : ℕ) (d : LegPair) → k < length row → IsSoundAt g side v (pair_at row k d).node (held side (pair_at row k d))
  pub apart : (k : ℕ) (d : LegPair) → k < length row → (pair_at row k d).node ≢ v
  pub within : (k : ℕ) (d : LegPair) → k < length row → (pair_at row k d).node < g.nodes
  pub held : AreAllHeld row

-- each leg of the row of v is shortened
pub record AreShortened (g : Network) (v : ℕ) (old new : List LegPair) : Type 0 where
  pub size : length new ≡ length old
  pub nodes : (k : ℕ) (d : LegPair) → k < length old → (pair_at new k d).node ≡ (pair_at old k d).node
  pub each : (side : Side) (k : ℕ) (d : LegPair) → k < length old →
      IsShortened g side v (pair_at old k d).node (held side (pair_at old k d)) (held side (pair_at new k d))
  pub held : AreAllHeld new

-- the row of v is shortened over the pair at this place, with the first pairs of the row of its node
pub record IsShortenedOver (g : Network) (v place : ℕ) (others : List LegPair) (count : ℕ) (old new : List LegPair) : Type 0 where
  pub short : AreShortened g v old new
  pub far : (side : Side) (k j : ℕ) (d : LegPair) → k < count → k < length others → j < length old →
      (pair_at old j d).node ≡ (pair_at others k d).node → IsOver g side v (pair_at old j d).node (held side (pair_at old place d))
      (held side (pair_at others k d)) (held side (pair_at new j d))
  pub near : (side : Side) (k j : ℕ) (d : LegPair) → k < count → k < length others → j < length old →
      (pair_at old j d).node ≡ (pair_at others k d).node → IsOver g side v (pair_at old place d).node (held side (pair_at old j d))
      (held (other side) (pair_at others k d)) (held side (pair_at new place d))

-- the row of v is shortened over its first pairs, each with the row of its node
pub record AreShortenedOver (g : Network) (v : ℕ) (metric : List (List LegPair)) (count : ℕ) (old new : List LegPair) : Type 0 where
  pub short : AreShortened g v old new
  pub over : (place k j : ℕ) (d : LegPair) → place < count → place < length old →
      k < length (pairs_row metric (pair_at old place d).node) → j < length old →
      (pair_at old j d).node ≡ (pair_at (pairs_row metric (pair_at old place d).node) k d).node → (side : Side) →
      IsOver g side v (pair_at old j d).node (held side (pair_at old place d))
      (held side (pair_at (pairs_row metric (pair_at old place d).node) k d)) (held side (pair_at new j d))
      × IsOver g side v (pair_at old place d).node (held side (pair_at old j d))
      (held (other side) (pair_at (pairs_row metric (pair_at old place d).node) k d)) (held side (pair_at new place d))

-- the row of v, and the rows of its nodes, are sound
pub record CanBeShortened (g : Network) (v : ℕ) (metric : List (List LegPair)) (row : List LegPair) : Type 0 where
  pub node : v < g.nodes
  pub sound : IsSoundRow g v row
  pub others : (k : ℕ) (d : LegPair) → k < length row →
      ((pair_at row k d).node < length metric) × IsSoundRow g (pair_at row k d).node (pairs_row metric (pair_at row k d).node)

-- the leg of the node at place i when it is taken, to x or from x
abbrev pub taken_leg : Network → List ℕ → Side → ℕ → ℕ → Option Label
taken_leg g order Up i x = legs_after g order i (slice_index order i) x
taken_leg g order Down i x = legs_after g order i x (slice_index order i)

-- c is the cost of a leg between the node at place i and another node, and of a least walk on
pub record IsByTakenLeg (g : Network) (order : List ℕ) (rows : List (List ℕ)) (side : Side) (i x : ℕ) (c : Cost) : Type 0 where
  pub node : ℕ
  pub inside : Contains (slice_index_or rows (slice_index order i) []) node
  pub leg : Label
  pub is : taken_leg g order side i node ≡ Some leg
  pub rest : Cost
  pub onward : IsLeastAt g side node x rest
  pub sum : c ≡ cost_sum leg.cost rest

-- each leg is a walk over other nodes, and each least walk between a node and a later one takes a leg of the first
pub record AreTakenLegs (g : Network) (order : List ℕ) (rows : List (List ℕ)) : Type 0 where
  pub walks : (side : Side) (i x : ℕ) → i < g.nodes → IsSoundAt g side (slice_index order i) x (taken_leg g order side i x)
  pub middles : (side : Side) (i x m : ℕ) (l : Label) → i < g.nodes → taken_leg g order side i x ≡ Some l → l.middle ≡ Some m → m < g.nodes
  pub first : (side : Side) (i j : ℕ) (c : Cost) → i < j → j < g.nodes → IsLeastAt g side (slice_index order i) (slice_index order j) c →
      IsByTakenLeg g order rows side i (slice_index order j) c

-- the row of the node at place i has a pair for each pair of the topology, and its legs are those of the node, shortened
pub record IsShortenedRow (g : Network) (order : List ℕ) (rows : List (List ℕ)) (i : ℕ) (row : List LegPair) : Type 0 where
  pub ends : map (λ p. p.node) row ≡ slice_index_or rows (slice_index order i) []
  pub each : (side : Side) (k : ℕ) (d : LegPair) → k < length row →
      IsShortened g side (slice_index order i) (pair_at row k d).node (taken_leg g order side i (pair_at row k d).node)
      (held side (pair_at row k d))
  pub held : AreAllHeld row

-- all legs of the node at place i are exact
abbrev pub IsExactRow : Network → List ℕ → ℕ → List LegPair → Type 0
IsExactRow g order i row = (side : Side) (k : ℕ) (d : LegPair) → k < length row →
    IsExactAt g side (slice_index order i) (pair_at row k d).node (held side (pair_at row k d))

-- all legs are shortened, and those of the nodes from this place on are exact
pub record AreExactFrom (g : Network) (order : List ℕ) (rows : List (List ℕ)) (first : ℕ) (metric : List (List LegPair)) : Type 0 where
  pub size : length metric ≡ g.nodes
  pub each : (i : ℕ) → i < g.nodes → IsShortenedRow g order rows i (pairs_row metric (slice_index order i))
  pub exact : (i : ℕ) → first ≤ i → i < g.nodes → IsExactRow g order i (pairs_row metric (slice_index order i))
