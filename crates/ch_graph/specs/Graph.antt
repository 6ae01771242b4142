-- A graph is a number of nodes and the list of its arcs.
use Rattle.std.specs.Prelude.{◌≡◌, ℕ, ◌*◌, ◌<◌, ◌≤◌, List, ◌++◌, length, take, slice_get, Some, All, codes, decimal}
use Rattle.ch_graph.specs.declared.arc.InArc.{InArc}
use Rattle.ch_graph.specs.declared.limits.TheConstants.{MOST_NODES, MOST_ARCS, MOST_WEIGHT}
use Rattle.ch_graph.specs.declared.graph.GraphFault.{GraphFault}
use Rattle.ch_graph.specs.declared.graph.GraphFault.TheVariants.{Size, NodeRange, Sum}

pub record Network : Type 0 where
  pub nodes : ℕ
  pub arcs : List InArc

-- both ends are nodes
abbrev pub HasEnds : ℕ → InArc → Type 0
HasEnds nodes a = (a.from < nodes) × (a.to < nodes)

-- both ends are nodes, and no walk without a repeated node weighs more than MOST_WEIGHT
pub record IsArcWithin (nodes : ℕ) (a : InArc) : Type 0 where
  pub ends : HasEnds nodes a
  pub weight : nodes * a.weight ≤ MOST_WEIGHT

-- the numbers of nodes and of arcs are within the limits
abbrev pub HasSize : Network → Type 0
HasSize g = (g.nodes ≤ MOST_NODES) × (length g.arcs ≤ MOST_ARCS)

-- a graph within the limits of this crate
pub record IsWithinLimits (g : Network) : Type 0 where
  pub size : HasSize g
  pub each : All (IsArcWithin g.nodes) g.arcs

-- the fault of the arc at this place: its ends are judged before its weight
abbrev pub IsArcFault : ℕ → ℕ → InArc → GraphFault → Type 0
IsArcFault nodes place a Size = ⊥
IsArcFault nodes place a (NodeRange i) = (i ≡ place) × (HasEnds nodes a → ⊥)
IsArcFault nodes place a (Sum i) = (i ≡ place) × HasEnds nodes a × (MOST_WEIGHT < nodes * a.weight)

-- the fault of the first arc that has one
pub record IsFirstArcFault (nodes : ℕ) (arcs : List InArc) (fault : GraphFault) : Type 0 where
  pub place : ℕ
  pub arc : InArc
  pub stands : slice_get arcs place ≡ Some arc
  pub before : All (IsArcWithin nodes) (take place arcs)
  pub is : IsArcFault nodes place arc fault

-- the first fault: the sizes are judged before the arcs
abbrev pub IsFirstFault : Network → GraphFault → Type 0
IsFirstFault g Size = HasSize g → ⊥
IsFirstFault g fault = HasSize g × IsFirstArcFault g.nodes g.arcs fault

-- the text of a fault
abbrev pub graph_fault_text : GraphFault → List ℕ
graph_fault_text Size = codes "size too large"
graph_fault_text (NodeRange place) = codes "arc " ++ decimal place ++ codes ": node out of range"
graph_fault_text (Sum place) = codes "arc " ++ decimal place ++ codes ": weight too large"
