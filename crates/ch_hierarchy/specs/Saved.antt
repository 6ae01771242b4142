-- The hierarchy that a saved one names, and the faults of a saved one.
use Rattle.std.specs.Prelude.{◌≡◌, ◌≢◌, ℕ, ◌+◌, ◌<◌, ◌≤◌, ◌↔◌, ◌⊎◌, List, length, slice_index, slice_get, AllPairs, Contains}
use Rattle.std.specs.Prelude.{Option, Some, None, Result, Err}
use Rattle.ch_graph.specs.declared.limits.TheConstants.{MOST_WEIGHT}
use Rattle.ch_graph.specs.declared.arc.InArc.{InArc}
use Rattle.ch_graph.specs.declared.cost.Cost.{Cost}
use Rattle.ch_graph.specs.declared.saved.SavedLeg.{SavedLeg}
use Rattle.ch_graph.specs.Graph.{Network}
use Rattle.ch_graph.specs.Saved.{OrderAndLegs}
use Rattle.ch_hierarchy.specs.declared.fault.CheckFault.{CheckFault}
use Rattle.ch_hierarchy.specs.declared.fault.CheckFault.TheVariants.{Order, Pair, Bound, Base, Middle, Arc, Lower}
use Rattle.ch_hierarchy.specs.declared.fault.CheckError.{CheckError}
use Rattle.ch_hierarchy.specs.declared.fault.CheckError.TheVariants.{NoMemory}
use Rattle.ch_hierarchy.specs.Hierarchy.{LevelsAndLegs, nodes_of, IsLevelled}
use Rattle.ch_hierarchy.specs.Kept.{IsLeg, IsFounded, HasLegWithin, IsCovered, IsKept}

-- the order has each node below n once
pub record IsOrderOf (n : ℕ) (order : List ℕ) : Type 0 where
  pub count : length order ≡ n
  pub within : (i : ℕ) → i < length order → slice_index order i < n
  pub distinct : (i j : ℕ) → i < j → j < length order → slice_index order i ≢ slice_index order j

-- the node at place i of the order has level i + 1
pub record AreLevelsOf (order levels : List ℕ) : Type 0 where
  pub count : length levels ≡ length order
  pub each : (i : ℕ) → i < length order → slice_index levels (slice_index order i) ≡ i + 1

abbrev pub IsSamePair : SavedLeg → SavedLeg → Type 0
IsSamePair k l = (k.from ≡ l.from) × (k.to ≡ l.to)

-- H has the levels of the order and exactly these legs, and each pair of nodes has at most one
pub record NamesHierarchy (s : OrderAndLegs) (H : LevelsAndLegs) : Type 0 where
  pub levelled : IsLevelled H
  pub levels : AreLevelsOf s.order H.level
  pub legs : (u w : ℕ) (c : Cost) (m : Option ℕ) → IsLeg H u w c m ↔ Contains s.legs (record { from = u; to = w; cost = c; middle = m })
  pub once : AllPairs (λ k l. IsSamePair k l → ⊥) s.legs

-- the ends are two different nodes below n
abbrev pub JoinsNodes : ℕ → SavedLeg → Type 0
JoinsNodes n l = (l.from < n) × (l.to < n) × (l.from ≢ l.to)

-- the weight and the number of arcs are within the limits
abbrev pub IsWithinBounds : ℕ → SavedLeg → Type 0
IsWithinBounds n l = (l.cost.weight ≤ MOST_WEIGHT) × (l.cost.arcs < n)

-- a leg before place i leads between the same nodes
abbrev pub StoodBefore : List SavedLeg → ℕ → SavedLeg → Type 0
StoodBefore legs i l = (j : ℕ) × (k : SavedLeg) × (j < i) × (slice_get legs j ≡ Some k) × IsSamePair k l

-- its ends are not two different nodes, or an earlier leg leads between the same nodes
abbrev pub HasPairFault : ℕ → List SavedLeg → ℕ → Type 0
HasPairFault n legs i = (l : SavedLeg) × (slice_get legs i ≡ Some l) × ((JoinsNodes n l → ⊥) ⊎ StoodBefore legs i l)

-- in the hierarchy that is named, the leg at place i is neither an arc nor the sum of two legs, as its middle says
abbrev pub IsUnfounded : Network → OrderAndLegs → ℕ → SavedLeg → Type 0
IsUnfounded g s i l =
    (slice_get s.legs i ≡ Some l) × ((H : LevelsAndLegs) × NamesHierarchy s H × (IsFounded g H l.from l.to l.cost l.middle → ⊥))

-- the saved hierarchy has this fault
abbrev pub HasFault : Network → OrderAndLegs → CheckFault → Type 0
HasFault g s Order = IsOrderOf g.nodes s.order → ⊥
HasFault g s (Pair i) = HasPairFault g.nodes s.legs i
HasFault g s (Bound i) = (l : SavedLeg) × (slice_get s.legs i ≡ Some l) × (IsWithinBounds g.nodes l → ⊥)
HasFault g s (Base i) = (l : SavedLeg) × (l.middle ≡ None) × IsUnfounded g s i l
HasFault g s (Middle i) = (l : SavedLeg) × (v : ℕ) × (l.middle ≡ Some v) × IsUnfounded g s i l
HasFault g s (Arc i) =
    (a : InArc) × (slice_get g.arcs i ≡ Some a) × (a.from ≢ a.to) × ((H : LevelsAndLegs) × NamesHierarchy s H × (HasLegWithin H a → ⊥))
HasFault g s (Lower v) = (v < g.nodes) × ((H : LevelsAndLegs) × NamesHierarchy s H × (IsCovered H v → ⊥))

-- the saved hierarchy has none of the seven faults
abbrev pub IsFaultless : Network → OrderAndLegs → Type 0
IsFaultless g s = (f : CheckFault) → HasFault g s f → ⊥

-- the number of a kind; the kinds are judged in this order
abbrev pub kind : CheckFault → ℕ
kind Order = 0
kind (Pair i) = 1
kind (Bound i) = 2
kind (Base i) = 3
kind (Middle i) = 4
kind (Arc i) = 5
kind (Lower v) = 6

abbrev pub place : CheckFault → ℕ
place Order = 0
place (Pair i) = i
place (Bound i) = i
place (Base i) = i
place (Middle i) = i
place (Arc i) = i
place (Lower v) = v

-- by kind, and within one kind by place
abbrev pub ComesBefore : CheckFault → CheckFault → Type 0
ComesBefore e f = (kind e < kind f) ⊎ ((kind e ≡ kind f) × (place e < place f))

-- it has this fault, and no fault that comes before it
pub record IsFirstFault (g : Network) (s : OrderAndLegs) (f : CheckFault) : Type 0 where
  pub has : HasFault g s f
  pub first : (e : CheckFault) → ComesBefore e f → HasFault g s e → ⊥

-- a fault of the order, of one leg alone, or of a leg and an earlier one
abbrev pub IsEarly : CheckFault → Type 0
IsEarly f = kind f < 3

-- the order and the legs name this hierarchy of as many nodes as the graph has
abbrev pub NamesFor : Network → OrderAndLegs → LevelsAndLegs → Type 0
NamesFor g s H = NamesHierarchy s H × (nodes_of H ≡ g.nodes)

-- the order and the legs name this hierarchy, and it is right for the graph
abbrev pub NamesKept : Network → OrderAndLegs → LevelsAndLegs → Type 0
NamesKept g s H = NamesHierarchy s H × IsKept g H

-- the result is this answer exactly when P holds, unless memory ran out
abbrev pub AnswersWhere : {A : Type 0} → Result A CheckError → Result A CheckError → Type 0 → Type 0
AnswersWhere result answer P = (result ≡ answer → P) × (P → (result ≡ answer) ⊎ (result ≡ Err NoMemory))
