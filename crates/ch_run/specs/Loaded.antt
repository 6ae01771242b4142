-- What a run has loaded: a graph, with a hierarchy that is right for it.
use Rattle.std.specs.Prelude.{◌≡◌, Option, None, IfSome, IsSome, All, ⊤}
use Rattle.ch_graph.specs.Graph.{Network, IsWithinLimits}
use Rattle.ch_hierarchy.specs.Hierarchy.{LevelsAndLegs}
use Rattle.ch_hierarchy.specs.Kept.{IsKept}
use Rattle.ch_read.specs.RequestLists.{WeightList}
use Rattle.ch_run.specs.declared.fault.RunFault.{RunFault}
use Rattle.ch_run.specs.Frames.{IsCustomizedBy, IsFrameFor, OrderAndTopology}
use Rattle.ch_run.specs.Weighing.{HasArc, IsFirstWithoutArc, reweighed}

-- a graph and a hierarchy, and what new weights are customized over, if they can be
pub record GraphAndHierarchy : Type 0 where
  pub graph : Network
  pub hierarchy : LevelsAndLegs
  pub frame : Option OrderAndTopology

-- a graph, and a hierarchy if one was loaded, with what new weights are customized over
pub record GraphAndSaved : Type 0 where
  pub graph : Network
  pub saved : Option LevelsAndLegs
  pub frame : Option OrderAndTopology

-- the graph is within the limits, and the hierarchy is right for it
pub record IsRight (checked : GraphAndHierarchy) : Type 0 where
  pub limits : IsWithinLimits checked.graph
  pub kept : IsKept checked.graph checked.hierarchy
  pub frame : IfSome checked.frame (IsFrameFor checked.graph)

-- the graph is within the limits, and the hierarchy is right for it if there is one
pub record IsRightIfSaved (loaded : GraphAndSaved) : Type 0 where
  pub limits : IsWithinLimits loaded.graph
  pub kept : IfSome loaded.saved (IsKept loaded.graph)
  pub frame : IfSome loaded.frame (IsFrameFor loaded.graph)

-- the graph has the new weights, each of which is for an arc, and the hierarchy is customized for it
pub record IsWeighed (old : GraphAndHierarchy) (weights : WeightList) (new : GraphAndHierarchy) : Type 0 where
  pub arcs : All (HasArc old.graph) weights.listed
  pub graph : new.graph ≡ reweighed old.graph weights.listed
  pub customized : IsCustomizedBy old.frame new.graph new.hierarchy
  pub frame : new.frame ≡ old.frame

-- why there are no such weights: the hierarchy is not customized, or the new weight on this line is the first one without an arc. Or
-- there is no memory
abbrev pub IsWeighingFault : GraphAndHierarchy → WeightList → RunFault → Type 0
IsWeighingFault old weights (RunFault.FixedAt line) = (old.frame ≡ None) × (line ≡ weights.line)
IsWeighingFault old weights (RunFault.NoArcAt line) = IsSome old.frame × IsFirstWithoutArc old.graph weights.listed line
IsWeighingFault old weights RunFault.Memory = ⊤
IsWeighingFault old weights _ = ⊥
