-- The hierarchy that an engine opens with.
use Rattle.std.specs.Prelude.{◌≡◌, ◌⊎◌, ℕ, ◌≤◌, List, [], ◌∷◌, map, take}
use Rattle.ch_graph.specs.declared.arc.InArc.{InArc}
use Rattle.ch_graph.specs.Graph.{Network, IsWithinLimits}
use Rattle.ch_graph.specs.Saved.{OrderAndLegs}
use Rattle.ch_hierarchy.specs.Hierarchy.{LevelsAndLegs, nodes_of}
use Rattle.ch_hierarchy.specs.Kept.{IsKept}
use Rattle.ch_hierarchy.specs.Saved.{NamesHierarchy}
use Rattle.ch_hierarchy.specs.Written.{IsByLevel}
use Rattle.ch_contract.specs.declared.measure.OrderBy.TheVariants.{Depth}
use Rattle.ch_contract.specs.Built.{IsHierarchyBy}
use Rattle.ch_contract.specs.Like.{IsHierarchyLike, given_count}
use Rattle.ch_order.specs.Crowded.{HasCrowded}
use Rattle.ch_order.specs.Quick.{IsHierarchyAfter}
use Rattle.ch_read.specs.Names.{NamesGraph, NamesSaved}
use Rattle.ch_engine.specs.Lines.{AreLines, Lines}

-- the hierarchy that the bytes of a saved one name. Without bytes it is the hierarchy by depth, with witnesses of at
-- most 5 legs
abbrev pub IsSavedOrBuilt : Network → List ℕ → LevelsAndLegs → Type 0
IsSavedOrBuilt g [] H = IsHierarchyBy Depth g 5 H
IsSavedOrBuilt g (byte ∷ bytes) H = (s : OrderAndLegs) × NamesSaved (byte ∷ bytes) g.nodes s × NamesHierarchy s H

-- the hierarchy is right for the graph that the bytes name, and the lines are those of this graph's arcs. The hierarchy
-- is saved or built
abbrev pub IsOpened : List ℕ → List ℕ → LevelsAndLegs → Lines → Type 0
IsOpened graph saved H lines =
    (g : Network) × NamesGraph graph g × IsWithinLimits g × IsKept g H × IsSavedOrBuilt g saved H × AreLines g H lines

-- these are the arcs of three arrays, in their order: arc k leads from tails[k] to heads[k], and has the weight weights[k]
pub record AreArcsOf (tails heads weights : List ℕ) (arcs : List InArc) : Type 0 where
  pub from : map (λ (a : InArc). a.from) arcs ≡ tails
  pub to : map (λ (a : InArc). a.to) arcs ≡ heads
  pub weight : map (λ (a : InArc). a.weight) arcs ≡ weights

-- the graph of n nodes and of the arcs of three arrays
abbrev pub IsOfArrays : ℕ → List ℕ → List ℕ → List ℕ → Network → Type 0
IsOfArrays n tails heads weights g = (g.nodes ≡ n) × AreArcsOf tails heads weights g.arcs

-- the hierarchy that the bytes of a saved one name. Without bytes the nodes are contracted in some order, with witnesses of
-- at most 5 legs
abbrev pub IsSavedOrQuick : Network → List ℕ → LevelsAndLegs → Type 0
IsSavedOrQuick g [] H = IsHierarchyAfter g 5 [] H
IsSavedOrQuick g (byte ∷ bytes) H = IsSavedOrBuilt g (byte ∷ bytes) H

-- the hierarchy is right for the graph of the arrays, and the lines are the places of its arcs in them. The hierarchy is
-- saved, or built in some order
abbrev pub IsOpenedOfArrays : ℕ → List ℕ → List ℕ → List ℕ → List ℕ → LevelsAndLegs → Lines → Type 0
IsOpenedOfArrays n tails heads weights saved H lines = (g : Network) × IsOfArrays n tails heads weights g × IsWithinLimits g
    × IsKept g H × IsSavedOrQuick g saved H × AreLines g H lines

-- the nodes of an order that come as given, where so many per cent of a graph's nodes are ordered afresh
abbrev pub given_part : Network → List ℕ → ℕ → List ℕ
given_part g order fresh = take (given_count g.nodes fresh) order

-- the hierarchy of a graph in an order like a given one, with so many per cent of the nodes ordered afresh, and with witnesses
-- of at most 5 legs. If one of the given nodes is crowded, it is the hierarchy by depth
abbrev pub IsBuiltInOrder : Network → List ℕ → ℕ → LevelsAndLegs → Type 0
IsBuiltInOrder g order fresh H =
    (((v : ℕ) → HasCrowded g 5 (given_part g order fresh) v → ⊥) × IsHierarchyLike g 5 order fresh H)
    ⊎ ((v : ℕ) × HasCrowded g 5 (given_part g order fresh) v × IsHierarchyBy Depth g 5 H)

-- the same in the order of another hierarchy's levels
abbrev pub IsBuiltLike : Network → LevelsAndLegs → ℕ → LevelsAndLegs → Type 0
IsBuiltLike g other fresh H = (order : List ℕ) × IsByLevel other order × IsBuiltInOrder g order fresh H

-- the hierarchy is right for the graph that the bytes name, and the lines are those of this graph's arcs. The hierarchy is
-- built in the order of another one of as many nodes
abbrev pub IsOpenedLike : List ℕ → LevelsAndLegs → ℕ → LevelsAndLegs → Lines → Type 0
IsOpenedLike graph other fresh H lines = (g : Network) × NamesGraph graph g × IsWithinLimits g × IsKept g H
    × (g.nodes ≡ nodes_of other) × (fresh ≤ 100) × IsBuiltLike g other fresh H × AreLines g H lines

-- the hierarchy is right for the graph that the bytes name, and the lines are those of this graph's arcs. Its nodes are contracted
-- in some order, with witnesses of at most 5 legs
abbrev pub IsOpenedQuickly : List ℕ → LevelsAndLegs → Lines → Type 0
IsOpenedQuickly graph H lines =
    (g : Network) × NamesGraph graph g × IsWithinLimits g × IsKept g H × IsHierarchyAfter g 5 [] H × AreLines g H lines
