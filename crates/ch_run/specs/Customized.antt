-- Hierarchies that are customized in an order that a run reads or finds.
use Rattle.std.specs.Prelude.{◌⊎◌, ◌*◌, ℕ, [], List}
use Rattle.ch_graph.specs.Graph.{Network}
use Rattle.ch_graph.specs.Saved.{OrderAndLegs}
use Rattle.ch_hierarchy.specs.Hierarchy.{LevelsAndLegs}
use Rattle.ch_hierarchy.specs.Kept.{IsKept}
use Rattle.ch_hierarchy.specs.Saved.{IsOrderOf}
use Rattle.ch_custom.specs.declared.topology.TheConstants.{TRIANGLES_A_NODE}
use Rattle.ch_custom.specs.Topologies.{IsCustomized}
use Rattle.ch_custom.specs.Triangles.{AllHaveMore}
use Rattle.ch_order.specs.Quick.{IsHierarchyAfter}
use Rattle.ch_read.specs.declared.form.Form.{Form}
use Rattle.ch_read.specs.Checks.{IsFault}
use Rattle.ch_read.specs.Names.{NamesSaved}
use Rattle.ch_run.specs.declared.fault.RunFault.{RunFault}

-- the order has each node of the graph once, and the hierarchy is customized in it. If each topology in this order has too many
-- triangles, the nodes are contracted in any order instead, with at most this many legs in a witness. It is right for the graph
pub record IsCustomizedIn (g : Network) (hops : ℕ) (order : List ℕ) (H : LevelsAndLegs) : Type 0 where
  pub each : IsOrderOf g.nodes order
  pub made : IsCustomized g order H ⊎ (AllHaveMore g order (TRIANGLES_A_NODE * g.nodes) × IsHierarchyAfter g hops [] H)
  pub kept : IsKept g H

-- the same in some order
abbrev pub IsDissected : Network → (hops : ℕ) → LevelsAndLegs → Type 0
IsDissected g hops H = (order : List ℕ) × IsCustomizedIn g hops order H

-- the bytes name an order of the graph's nodes, and the hierarchy is customized in it
abbrev pub NamesCustomized : Network → (hops : ℕ) → List ℕ → LevelsAndLegs → Type 0
NamesCustomized g hops bytes H = (s : OrderAndLegs) × NamesSaved bytes g.nodes s × IsCustomizedIn g hops s.order H

-- the bytes of an order are refused for customization on this graph, for a fault of their lines, or because they don't have each node once
abbrev pub IsUncustomizable : Network → List ℕ → RunFault → Type 0
IsUncustomizable g bytes (RunFault.Read input fault) = IsFault (Form.Saved g.nodes) bytes fault.line fault.kind
IsUncustomizable g bytes RunFault.Order = (s : OrderAndLegs) × NamesSaved bytes g.nodes s × (IsOrderOf g.nodes s.order → ⊥)
IsUncustomizable g bytes _ = ⊥
