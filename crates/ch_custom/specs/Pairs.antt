-- Rows of nodes that grow until they are a topology.
use Rattle.std.specs.Prelude.{◌≡◌, ◌≢◌, ℕ, ◌<◌, ◌⊎◌, List, [], length, AllPairs, Contains, slice_index, slice_index_or, slice_set}
use Rattle.std.specs.List.{insert}
use Rattle.ch_graph.specs.declared.arc.InArc.{InArc}
use Rattle.ch_graph.specs.Graph.{Network}
use Rattle.ch_hierarchy.specs.Saved.{AreLevelsOf}
use Rattle.ch_custom.specs.Customizing.{HaveArcs, HasParent}
use Rattle.ch_custom.specs.Topologies.{IsSound}

-- the row of a node
abbrev pub nodes_row : List (List ℕ) → ℕ → List ℕ
nodes_row rows v = slice_index_or rows v []

-- these are in order, and have the old ones and the others without one
pub record IsUnion (old others : List ℕ) (without : ℕ) (new : List ℕ) : Type 0 where
  pub ordered : AllPairs ◌<◌ new
  pub each : (y : ℕ) → Contains new y → Contains old y ⊎ (Contains others y × (y ≢ without))
  pub kept : (y : ℕ) → Contains old y → Contains new y
  pub added : (y : ℕ) → Contains others y → y ≢ without → Contains new y

-- the node is put in at this place if it is not there
abbrev pub IsPutAt : List ℕ → ℕ → ℕ → List ℕ → Type 0
IsPutAt old next node new = ((next < length old) × (slice_index old next ≡ node) × (new ≡ old))
    ⊎ ((next < length old → slice_index old next ≢ node) × (new ≡ insert old next node))

-- the row of a node grows to a union
pub record IsMerged (p : ℕ) (others : List ℕ) (without : ℕ) (old new : List (List ℕ)) : Type 0 where
  pub edited : new ≡ slice_set old p (nodes_row new p)
  pub union : IsUnion (nodes_row old p) others without (nodes_row new p)

-- sound rows among the nodes of the graph, which have these arcs
pub record AreRowsFor (g : Network) (order levels : List ℕ) (arcs : List InArc) (rows : List (List ℕ)) : Type 0 where
  pub size : length rows ≡ g.nodes
  pub sound : IsSound (record { order = order; pairs = rows })
  pub by_level : AreLevelsOf order levels
  pub with_arcs : HaveArcs (record { nodes = g.nodes; arcs = arcs }) order rows

-- and whose first places have handed their nodes on
pub record AreHandedOn (g : Network) (order levels : List ℕ) (count : ℕ) (rows : List (List ℕ)) : Type 0 where
  pub rows_for : AreRowsFor g order levels g.arcs rows
  pub parents : (k : ℕ) → k < count → k < g.nodes → HasParent g.nodes order rows k

-- the place in the order of a lower and of a higher node
abbrev pub IsRising : List ℕ → ℕ → ℕ → Type 0
IsRising levels lo hi = (lo ≡ hi) ⊎ (slice_index levels lo < slice_index levels hi)
