-- What a run keeps to customize new weights: an order, its topology unless that has too many triangles, and the bound on witnesses.
use Rattle.std.specs.Prelude.{◌≡◌, ℕ, ◌*◌, Bool, true, false, List, length, Option, Some, None}
use Rattle.ch_graph.specs.Graph.{Network}
use Rattle.ch_graph.specs.Saved.{OrderAndLegs}
use Rattle.ch_hierarchy.specs.Hierarchy.{LevelsAndLegs}
use Rattle.ch_hierarchy.specs.Saved.{IsOrderOf}
use Rattle.ch_custom.specs.declared.topology.TheConstants.{TRIANGLES_A_NODE}
use Rattle.ch_custom.specs.Customizing.{IsTopology}
use Rattle.ch_custom.specs.Topologies.{OrderAndPairs}
use Rattle.ch_custom.specs.Triangles.{AllHaveMore}
use Rattle.ch_read.specs.Names.{NamesSaved}
use Rattle.ch_run.specs.Customized.{IsCustomizedIn, IsDissected, NamesCustomized}
use Rattle.ch_run.specs.Run.{CustomizedFile, FoundOrder, ReadsAll, SourceReading}

-- an order, a topology in it or none, and the most legs of a witness of a hierarchy that is built without a topology
pub record OrderAndTopology : Type 0 where
  pub order : List ℕ
  pub topology : Option OrderAndPairs
  pub hops : ℕ

-- a topology of the graph in this order, or none because each has too many triangles
abbrev pub IsTopologyFor : Network → List ℕ → Option OrderAndPairs → Type 0
IsTopologyFor g order None = AllHaveMore g order (TRIANGLES_A_NODE * g.nodes)
IsTopologyFor g order (Some t) = (t.order ≡ order) × (length t.pairs ≡ g.nodes) × IsTopology g t.order t.pairs

-- the order has each node of the graph once, and the topology is one of the graph
pub record IsFrameFor (g : Network) (frame : OrderAndTopology) : Type 0 where
  pub each : IsOrderOf g.nodes frame.order
  pub topology : IsTopologyFor g frame.order frame.topology

-- the hierarchy is customized for this graph in the order that is kept, if one is
abbrev pub IsCustomizedBy : Option OrderAndTopology → Network → LevelsAndLegs → Type 0
IsCustomizedBy None g H = ⊥
IsCustomizedBy (Some frame) g H = IsCustomizedIn g frame.hops frame.order H

-- the hierarchy is customized for this graph in the order that the run read or found, if it did
abbrev pub IsCustomizedFrom : SourceReading → Network → LevelsAndLegs → Type 0
IsCustomizedFrom (CustomizedFile order hops) g H = ReadsAll order (λ bytes. NamesCustomized g hops bytes H)
IsCustomizedFrom (FoundOrder hops) g H = IsDissected g hops H
IsCustomizedFrom _ g H = ⊥

-- the hierarchy of a run is customized
abbrev pub is_customized : SourceReading → Bool
is_customized (CustomizedFile order hops) = true
is_customized (FoundOrder hops) = true
is_customized _ = false

-- what is kept for new weights is the order that the run read or found, on a graph with this many nodes
abbrev pub IsFrameFrom : SourceReading → ℕ → Option OrderAndTopology → Type 0
IsFrameFrom (CustomizedFile order hops) n frame = (f : OrderAndTopology) × (frame ≡ Some f) × (f.hops ≡ hops)
    × ReadsAll order (λ bytes. (s : OrderAndLegs) × NamesSaved bytes n s × (s.order ≡ f.order))
IsFrameFrom (FoundOrder hops) n frame = (f : OrderAndTopology) × (frame ≡ Some f) × (f.hops ≡ hops)
IsFrameFrom _ n frame = frame ≡ None
