-- The text of a hierarchy that is saved is read as this hierarchy.
use Rattle.std.specs.Prelude.{ℕ, List}
use Rattle.ch_graph.specs.Graph.{Network, IsWithinLimits}
use Rattle.ch_graph.specs.Saved.{OrderAndLegs}
use Rattle.ch_read.specs.Names.{NamesSaved}
use Rattle.ch_hierarchy.specs.Hierarchy.{LevelsAndLegs}
use Rattle.ch_hierarchy.specs.Kept.{IsKept}
use Rattle.ch_hierarchy.specs.Saved.{NamesKept}
use Rattle.ch_contract.specs.declared.measure.OrderBy.{OrderBy}
use Rattle.ch_contract.specs.Legs.{IsHopBound}
use Rattle.ch_contract.specs.Built.{IsHierarchyBy}
use Rattle.ch_text.specs.SaveText.{IsHierarchyText}
use Rattle.ch_run.specs.Text.{IsSaveText}

-- the bytes name an order and legs on the graph, and these name the hierarchy, which is right for the graph
abbrev pub IsReadAs : List ℕ → Network → LevelsAndLegs → Type 0
IsReadAs bytes g H = (s : OrderAndLegs) × NamesSaved bytes g.nodes s × NamesKept g s H

-- the text of a hierarchy of any origin that is right for a graph is read as this hierarchy
abbrev pub HierarchyTextsReadBack : Type 0
HierarchyTextsReadBack = (g : Network) (H : LevelsAndLegs) (text : List ℕ) → IsKept g H → IsHierarchyText H text → IsReadAs text g H

-- the text that is saved of a graph within the limits is read as its hierarchy
abbrev pub SavedTextsReadBack : Type 0
SavedTextsReadBack = (by : OrderBy) (g : Network) (h : ℕ) (text : List ℕ) → IsWithinLimits g → IsHopBound h → IsSaveText by g h text →
    (H : LevelsAndLegs) × IsHierarchyBy by g h H × IsReadAs text g H
