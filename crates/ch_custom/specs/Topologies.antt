-- Arrays of legs over a topology, and one step of customization.
use Rattle.std.specs.Prelude.{◌≡◌, ◌≢◌, ℕ, zero, suc, ◌+◌, ◌<◌, ◌≤◌, List, [], length, map, min, All, AllPairs, Contains, slice_index}
use Rattle.std.specs.Prelude.{slice_index_or, Option, None}
use Rattle.ch_graph.specs.declared.limits.TheConstants.{MOST_NODES}
use Rattle.ch_graph.specs.Graph.{Network}
use Rattle.ch_hierarchy.specs.declared.leg.Leg.{Leg}
use Rattle.ch_hierarchy.specs.Hierarchy.{LevelsAndLegs}
use Rattle.ch_hierarchy.specs.Rows.{row}
use Rattle.ch_hierarchy.specs.Saved.{IsOrderOf}
use Rattle.ch_contract.specs.Legs.{Label, Legs, turned_legs, opening}
use Rattle.ch_contract.specs.Built.{IsHierarchyIn}
use Rattle.ch_custom.specs.Customizing.{leg_over, legs_lowered, IsTopology, Lowers}
use Rattle.ch_custom.specs.Metric.{held_leg, IsHeld, AreLoweredOver}

-- the legs of a graph after the first k nodes of an order are taken, each lowered over
abbrev pub legs_after : Network → List ℕ → ℕ → Legs
legs_after g order zero = opening g
legs_after g order (suc k) = legs_lowered g.nodes (legs_after g order k) (slice_index order k)

-- the hierarchy has the legs of the nodes of this order, each when it is taken
abbrev pub IsCustomized : Network → List ℕ → LevelsAndLegs → Type 0
IsCustomized g order H = IsHierarchyIn (Lowers g.nodes) g H order (legs_after g order)

-- each node of the row of a place is the node of a higher place
abbrev pub AreHigher : ℕ → List ℕ → List (List ℕ) → Type 0
AreHigher n order rows = (i w : ℕ) → i < n → Contains (slice_index_or rows (slice_index order i) []) w → (j : ℕ) × (i < j) × (j < n)
    × (slice_index order j ≡ w)

-- a row has a place for each of these nodes, with the leg that is named for it
pub record HasLegs (leg : ℕ → Option Label) (nodes : List ℕ) (legs : List Leg) : Type 0 where
  pub ends : map (λ l. l.node) legs ≡ nodes
  pub each : (l : Leg) → Contains legs l → held_leg l ≡ leg l.node
  pub held : All IsHeld legs

-- the rows of all nodes have a place for each pair of the topology. T i are the legs for the node at place i
pub record IsMetric (n : ℕ) (order : List ℕ) (rows : List (List ℕ)) (T : ℕ → Legs) (metric : List (List Leg)) : Type 0 where
  pub size : length metric ≡ n
  pub each : (i : ℕ) → i < n →
      HasLegs (T i (slice_index order i)) (slice_index_or rows (slice_index order i) []) (row metric (slice_index order i))

-- the row of each node of `seconds` before `count` is lowered over v: with the leg of `firsts` at the same place, and with
-- `seconds`. All other rows stay
pub record AreRelaxedTo (n v : ℕ) (firsts seconds : List Leg) (count : ℕ) (old new : List (List Leg)) : Type 0 where
  pub size : length new ≡ length old
  pub lowered : (a : ℕ) (d : Leg) → a < count → a < length seconds →
      AreLoweredOver n v (slice_index_or firsts a d) seconds (row old (slice_index_or seconds a d).node)
      (row new (slice_index_or seconds a d).node)
  pub held : (a : ℕ) (d : Leg) → a < count → a < length seconds → All IsHeld (row new (slice_index_or seconds a d).node)
  pub kept : (x : ℕ) → ((a : ℕ) (d : Leg) → a < count → a < length seconds → (slice_index_or seconds a d).node ≡ x → ⊥) →
      row new x ≡ row old x

-- the same for all nodes of `seconds`
abbrev pub AreRelaxed : ℕ → ℕ → List Leg → List Leg → List (List Leg) → List (List Leg) → Type 0
AreRelaxed n v firsts seconds old new = AreRelaxedTo n v firsts seconds (length seconds) old new

-- the leg from x to w, lowered over v
abbrev pub leg_over_at : ℕ → ℕ → Legs → ℕ → ℕ → Option Label
leg_over_at n v M x w = leg_over n v (M x v) (M v w) (M x w)

-- no leg leads between v and x
abbrev pub HasNone : Legs → ℕ → ℕ → Type 0
HasNone M v x = (M v x ≡ None) × (M x v ≡ None)

-- one step keeps the arrays right: for each place the legs just before it is taken, or the present ones. T k are the legs
-- after k steps, from the node of a row to the nodes in it or in the other direction
abbrev pub RelaxingKeepsMetrics : Type 0
RelaxingKeepsMetrics =
    (n : ℕ) (order : List ℕ) (rows : List (List ℕ)) (T : ℕ → Legs) (k : ℕ) (firsts seconds : List Leg) (old new : List (List Leg)) →
    k < n → ((i j : ℕ) → i < n → j < n → slice_index order i ≡ slice_index order j → i ≡ j) → AreHigher n order rows →
    ((x w : ℕ) → x ≢ slice_index order k → w ≢ slice_index order k → x ≢ w →
    T (k + 1) x w ≡ leg_over_at n (slice_index order k) (T k) x w) →
    ((i : ℕ) → k < i → i < n → (Contains (slice_index_or rows (slice_index order k) []) (slice_index order i) → ⊥) →
    HasNone (T k) (slice_index order k) (slice_index order i)) →
    HasLegs (λ x. T k x (slice_index order k)) (slice_index_or rows (slice_index order k) []) firsts →
    HasLegs (T k (slice_index order k)) (slice_index_or rows (slice_index order k) []) seconds →
    IsMetric n order rows (λ i. T (min i k)) old → AreRelaxed n (slice_index order k) firsts seconds old new →
    IsMetric n order rows (λ i. T (min i (k + 1))) new

-- an order of nodes, and for each node the nodes of its pairs that come later
pub record OrderAndPairs : Type 0 where
  pub order : List ℕ
  pub pairs : List (List ℕ)

-- the order has each node once; the rows are in order of the node, and lead to nodes that come later
pub record IsSound (f : OrderAndPairs) : Type 0 where
  pub count : length f.pairs ≤ MOST_NODES
  pub nodes : IsOrderOf (length f.pairs) f.order
  pub ordered : (v : ℕ) → AllPairs ◌<◌ (slice_index_or f.pairs v [])
  pub higher : AreHigher (length f.pairs) f.order f.pairs

-- these are sound, and of the nodes of the graph
pub record AreRowsIn (g : Network) (order : List ℕ) (rows : List (List ℕ)) : Type 0 where
  pub size : length rows ≡ g.nodes
  pub sound : IsSound (record { order = order; pairs = rows })

-- and a topology of the graph
pub record AreFor (g : Network) (order : List ℕ) (rows : List (List ℕ)) : Type 0 where
  pub size : length rows ≡ g.nodes
  pub sound : IsSound (record { order = order; pairs = rows })
  pub topology : IsTopology g order rows

-- the arrays after k nodes are taken: each row has the legs just before its node is taken, or the present ones
abbrev pub AreMetricsAt : Network → List ℕ → List (List ℕ) → ℕ → List (List Leg) → List (List Leg) → Type 0
AreMetricsAt g order rows k ups downs =
    IsMetric g.nodes order rows (λ i. legs_after g order (min i k)) ups
    × IsMetric g.nodes order rows (λ i. turned_legs (legs_after g order (min i k))) downs
