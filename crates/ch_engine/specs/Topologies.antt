-- The topology of a graph's arcs, and the graphs with these arcs and other weights.
use Rattle.std.specs.Prelude.{◌≡◌, ◌≢◌, ℕ, ◌*◌, ◌≤◌, ◌⊎◌, List, [], ◌∷◌, length, map, replicate, ⊤}
use Rattle.ch_graph.specs.declared.arc.InArc.{InArc}
use Rattle.ch_graph.specs.Graph.{Network, IsWithinLimits, IsFirstFault}
use Rattle.ch_hierarchy.specs.Hierarchy.{LevelsAndLegs}
use Rattle.ch_hierarchy.specs.Kept.{IsKept}
use Rattle.ch_hierarchy.specs.Saved.{IsOrderOf}
use Rattle.ch_custom.specs.declared.topology.TheConstants.{TRIANGLES_A_NODE}
use Rattle.ch_custom.specs.Customizing.{IsTopology}
use Rattle.ch_custom.specs.Topologies.{IsCustomized}
use Rattle.ch_custom.specs.Triangles.{AllHaveMore, triangles_over}
use Rattle.ch_read.specs.declared.form.Form.TheVariants.{Graph, Saved}
use Rattle.ch_read.specs.Checks.{IsFault}
use Rattle.ch_read.specs.Names.{NamesGraph, NamesOrder}
use Rattle.ch_engine.specs.Lines.{AreLines, Lines}
use Rattle.ch_engine.specs.Opened.{IsOfArrays}
use Rattle.ch_engine.specs.declared.fault.OpenError.{OpenError}
use Rattle.ch_engine.specs.declared.topology_error.TopologyError.{TopologyError}

-- a number of nodes, the ends of arcs in the order of their lines, and an order of the nodes with the pairs of its topology
pub record EndsAndPairs : Type 0 where
  pub nodes : ℕ
  pub tails : List ℕ
  pub heads : List ℕ
  pub order : List ℕ
  pub pairs : List (List ℕ)

-- the graph has these nodes, and arcs with these ends
pub record HasEndsOf (t : EndsAndPairs) (g : Network) : Type 0 where
  pub nodes : g.nodes ≡ t.nodes
  pub tails : map (λ (a : InArc). a.from) g.arcs ≡ t.tails
  pub heads : map (λ (a : InArc). a.to) g.arcs ≡ t.heads

-- the graph with these nodes and ends of arcs where arc k weighs weights[k]
abbrev pub IsWeighed : EndsAndPairs → List ℕ → Network → Type 0
IsWeighed t weights g = IsOfArrays t.nodes t.tails t.heads weights g

-- the pairs are a topology of each graph with these ends of arcs
pub record IsForAllWeights (t : EndsAndPairs) : Type 0 where
  pub size : length t.pairs ≡ t.nodes
  pub ends : length t.heads ≡ length t.tails
  pub topology : (g : Network) → HasEndsOf t g → IsTopology g t.order t.pairs

-- the order of n nodes that bytes name. Without bytes it is any order
abbrev pub IsNamedOrder : List ℕ → ℕ → List ℕ → Type 0
IsNamedOrder [] n order = IsOrderOf n order
IsNamedOrder (byte ∷ bytes) n order = NamesOrder (byte ∷ bytes) n order

-- the pairs are a topology in the order that bytes name, and have at most so many triangles that customization pays
abbrev pub IsInOrder : List ℕ → EndsAndPairs → Type 0
IsInOrder bytes t = IsNamedOrder bytes t.nodes t.order × (triangles_over t.pairs t.order ≤ TRIANGLES_A_NODE * t.nodes)

-- the topology of the graph that the bytes name
abbrev pub IsTopologyOpened : List ℕ → List ℕ → EndsAndPairs → Type 0
IsTopologyOpened graph bytes t = (g : Network) × NamesGraph graph g × HasEndsOf t g × IsInOrder bytes t

-- the graph of n nodes and of arcs from tails[k] to heads[k], which weigh nothing
abbrev pub IsOfEnds : ℕ → List ℕ → List ℕ → Network → Type 0
IsOfEnds n tails heads g = IsOfArrays n tails heads (replicate (length tails) 0) g

-- the topology of these arcs
abbrev pub IsTopologyOfArrays : ℕ → List ℕ → List ℕ → List ℕ → EndsAndPairs → Type 0
IsTopologyOfArrays n tails heads bytes t = (t.nodes ≡ n) × (t.tails ≡ tails) × (t.heads ≡ heads) × IsInOrder bytes t

-- the error is true of the bytes of an order for a graph. Faults of the bytes come before those of the order
abbrev pub IsOrderError : Network → List ℕ → TopologyError → Type 0
IsOrderError g bytes TopologyError.NoMemory = ⊤
IsOrderError g bytes (TopologyError.BadGraph f) = ⊥
IsOrderError g bytes TopologyError.Lengths = ⊥
IsOrderError g bytes (TopologyError.BadArrays f) = ⊥
IsOrderError g bytes (TopologyError.BadOrder f) = (bytes ≢ []) × IsFault (Saved g.nodes) bytes f.line f.kind
IsOrderError g bytes TopologyError.WrongOrder =
    (order : List ℕ) × IsNamedOrder bytes g.nodes order × (IsOrderOf g.nodes order → ⊥)
IsOrderError g bytes TopologyError.Triangles =
    (order : List ℕ) × IsNamedOrder bytes g.nodes order × AllHaveMore g order (TRIANGLES_A_NODE * g.nodes)

-- the error is true of the bytes of a graph
abbrev pub IsBytesError : List ℕ → TopologyError → Type 0
IsBytesError graph TopologyError.NoMemory = ⊤
IsBytesError graph (TopologyError.BadGraph f) = IsFault Graph graph f.line f.kind
IsBytesError graph TopologyError.Lengths = ⊥
IsBytesError graph (TopologyError.BadArrays f) = ⊥
IsBytesError graph (TopologyError.BadOrder f) = ⊥
IsBytesError graph TopologyError.WrongOrder = ⊥
IsBytesError graph TopologyError.Triangles = ⊥

-- the error is true of the bytes of a graph, or of those of an order for it. Graphs come before orders
abbrev pub IsTopologyError : List ℕ → List ℕ → TopologyError → Type 0
IsTopologyError graph bytes error = IsBytesError graph error ⊎ ((g : Network) × NamesGraph graph g × IsOrderError g bytes error)

-- the error is true of arrays of the ends of arcs between n nodes. Lengths come before arcs
abbrev pub IsUnweighedError : ℕ → List ℕ → List ℕ → TopologyError → Type 0
IsUnweighedError n tails heads TopologyError.NoMemory = ⊤
IsUnweighedError n tails heads (TopologyError.BadGraph f) = ⊥
IsUnweighedError n tails heads TopologyError.Lengths = length heads ≢ length tails
IsUnweighedError n tails heads (TopologyError.BadArrays f) = (g : Network) × IsOfEnds n tails heads g × IsFirstFault g f
IsUnweighedError n tails heads (TopologyError.BadOrder f) = ⊥
IsUnweighedError n tails heads TopologyError.WrongOrder = ⊥
IsUnweighedError n tails heads TopologyError.Triangles = ⊥

-- the error is true of these arrays, or of the bytes of an order for their graph. Arrays come before orders
abbrev pub IsArraysTopologyError : ℕ → List ℕ → List ℕ → List ℕ → TopologyError → Type 0
IsArraysTopologyError n tails heads bytes error = IsUnweighedError n tails heads error
    ⊎ ((g : Network) × IsOfEnds n tails heads g × IsOrderError g bytes error)

-- the hierarchy is right for the graph with these weights, and the lines are the places of its arcs. It is customized in the
-- topology's order
abbrev pub IsOpenedWith : EndsAndPairs → List ℕ → LevelsAndLegs → Lines → Type 0
IsOpenedWith t weights H lines =
    (g : Network) × IsWeighed t weights g × IsWithinLimits g × IsKept g H × IsCustomized g t.order H × AreLines g H lines

-- the error is true of the weights: there is not one for each arc, or one is too large
abbrev pub IsWeightsError : EndsAndPairs → List ℕ → OpenError → Type 0
IsWeightsError t weights OpenError.NoMemory = ⊤
IsWeightsError t weights (OpenError.BadGraph f) = ⊥
IsWeightsError t weights (OpenError.BadSaved f) = ⊥
IsWeightsError t weights (OpenError.WrongSaved f) = ⊥
IsWeightsError t weights OpenError.Lengths = length weights ≢ length t.tails
IsWeightsError t weights (OpenError.BadArrays f) = (g : Network) × IsWeighed t weights g × IsFirstFault g f
IsWeightsError t weights OpenError.OtherNodes = ⊥
IsWeightsError t weights OpenError.FreshRange = ⊥
