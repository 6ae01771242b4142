-- Laws of saved hierarchies and their faults.
use Rattle.std.specs.Prelude.{◌≡◌, ℕ, List}
use Rattle.ch_graph.specs.Graph.{Network, IsWithinLimits}
use Rattle.ch_graph.specs.Saved.{OrderAndLegs}
use Rattle.ch_hierarchy.specs.declared.fault.CheckFault.{CheckFault}
use Rattle.ch_hierarchy.specs.Hierarchy.{LevelsAndLegs, IsLevelled}
use Rattle.ch_hierarchy.specs.Kept.{IsKept}
use Rattle.ch_hierarchy.specs.Saved.{NamesHierarchy, NamesFor, NamesKept, HasFault, IsFaultless, IsEarly, IsFirstFault}
use Rattle.ch_hierarchy.specs.Written.{IsByLevel, written}

-- an order and legs name at most one hierarchy
abbrev pub OneHierarchyIsNamed : Type 0
OneHierarchyIsNamed = (s : OrderAndLegs) (H K : LevelsAndLegs) → NamesHierarchy s H → NamesHierarchy s K → H ≡ K

-- if they name a hierarchy that is right for the graph, they have no fault
abbrev pub KeptHierarchiesHaveNoFault : Type 0
KeptHierarchiesHaveNoFault = (g : Network) (s : OrderAndLegs) (H : LevelsAndLegs) → NamesKept g s H → IsFaultless g s

-- if they have no fault, they name a hierarchy that is right for the graph
abbrev pub FaultlessIsKept : Type 0
FaultlessIsKept = (g : Network) (s : OrderAndLegs) → IsWithinLimits g → IsFaultless g s → (H : LevelsAndLegs) × NamesKept g s H

-- if they name a hierarchy among the graph's nodes, they have no early fault
abbrev pub NamedHierarchiesHaveNoEarlyFault : Type 0
NamedHierarchiesHaveNoEarlyFault =
    (g : Network) (s : OrderAndLegs) (H : LevelsAndLegs) → NamesFor g s H → (f : CheckFault) → IsEarly f → HasFault g s f → ⊥

-- at most one fault is the first
abbrev pub OneFaultIsFirst : Type 0
OneFaultIsFirst = (g : Network) (s : OrderAndLegs) (e f : CheckFault) → IsFirstFault g s e → IsFirstFault g s f → e ≡ f

-- the nodes of a levelled hierarchy have exactly one order of level
abbrev pub OneOrderIsByLevel : Type 0
OneOrderIsByLevel =
    (H : LevelsAndLegs) → IsLevelled H → (order : List ℕ) × IsByLevel H order × ((other : List ℕ) → IsByLevel H other → order ≡ other)

-- written in this order, the hierarchy is the one that is named
abbrev pub WrittenHierarchiesAreNamed : Type 0
WrittenHierarchiesAreNamed = (H : LevelsAndLegs) (order : List ℕ) → IsLevelled H → IsByLevel H order → NamesHierarchy (written H order) H

-- if it is right for the graph, what is written has no fault
abbrev pub WrittenHierarchiesHaveNoFault : Type 0
WrittenHierarchiesHaveNoFault = (g : Network) (H : LevelsAndLegs) (order : List ℕ) → IsKept g H → IsByLevel H order →
    NamesKept g (written H order) H × IsFaultless g (written H order)
