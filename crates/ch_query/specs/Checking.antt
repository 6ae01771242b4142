-- A saved hierarchy and a graph.
use Rattle.std.specs.Prelude.{◌≡◌, ◌≢◌, ℕ, ◌≤◌, ◌<◌, ◌⊎◌, ◌↔◌, List, [], length, slice_index_or, All, AllPairs, Contains, Option}
use Rattle.std.specs.Prelude.{Some, None, MatchOption, Result, Err, IsOk}
use Rattle.ch_graph.specs.declared.arc.InArc.{InArc}
use Rattle.ch_graph.specs.declared.cost.Cost.{Cost}
use Rattle.ch_graph.specs.declared.saved.SavedLeg.{SavedLeg}
use Rattle.ch_graph.specs.Graph.{Network}
use Rattle.ch_graph.specs.Saved.{OrderAndLegs}
use Rattle.ch_graph.specs.Cost.{IsAtMost, cost_sum}
use Rattle.ch_hierarchy.specs.declared.leg.Leg.{Leg}
use Rattle.ch_hierarchy.specs.declared.fault.CheckError.{CheckError}
use Rattle.ch_hierarchy.specs.declared.fault.CheckError.TheVariants.{Fault, NoMemory}
use Rattle.ch_hierarchy.specs.declared.fault.CheckFault.{CheckFault}
use Rattle.ch_hierarchy.specs.Rows.{row}
use Rattle.ch_hierarchy.specs.Hierarchy.{LevelsAndLegs}
use Rattle.ch_hierarchy.specs.Kept.{IsLeg, HasLegWithin}
use Rattle.ch_hierarchy.specs.Saved.{NamesFor}

-- the result is Ok exactly when P holds, unless memory ran out
abbrev pub IsOkWhere : {A : Type 0} → Result A CheckError → Type 0 → Type 0
IsOkWhere result P = (IsOk result → P) × (P → IsOk result ⊎ (result ≡ Err NoMemory))

abbrev pub start_of : InArc → ℕ
start_of a = a.from

abbrev pub end_of : InArc → ℕ
end_of a = a.to

-- the row of each node has the arcs that begin there, in order of the nodes where they end
pub record AreArcRows (g : Network) (rows : List (List InArc)) : Type 0 where
  pub count : length rows ≡ g.nodes
  pub each : (v : ℕ) (a : InArc) → v < g.nodes → Contains (slice_index_or rows v []) a ↔ (Contains g.arcs a × (a.from ≡ v))
  pub order : (v : ℕ) → v < g.nodes → AllPairs (λ a b. a.to ≤ b.to) (slice_index_or rows v [])

-- one of these arcs leads to this node at this weight
abbrev pub HasArc : List InArc → ℕ → ℕ → Type 0
HasArc arcs end weight = (a : InArc) × Contains arcs a × (a.to ≡ end) × (a.weight ≡ weight)

-- if the leg has no middle, it is an arc of the graph
abbrev pub IsArcIfBase : Network → SavedLeg → Type 0
IsArcIfBase g l = l.middle ≡ None → (l.cost.arcs ≡ 1) × Contains g.arcs (record { from = l.from; to = l.to; weight = l.cost.weight })

-- the leg is the sum of the two legs that node v has
abbrev pub IsSumOver : LevelsAndLegs → SavedLeg → ℕ → Type 0
IsSumOver H l v = (a b : Leg) × Contains (row H.down v) a × (a.node ≡ l.from) × Contains (row H.up v) b × (b.node ≡ l.to)
    × (l.cost ≡ cost_sum a.cost b.cost)

-- if the leg has a middle, it is the sum of the two legs of that middle
abbrev pub IsSumIfShortcut : LevelsAndLegs → SavedLeg → Type 0
IsSumIfShortcut H l = (v : ℕ) → l.middle ≡ Some v → IsSumOver H l v

-- the cost of the leg of a row at this node, or none if there is no such leg
abbrev pub IsRowCost : List Leg → ℕ → Option Cost → Type 0
IsRowCost legs x answer =
    MatchOption answer ((l : Leg) → Contains legs l → l.node ≢ x) (λ c. (l : Leg) × Contains legs l × (l.node ≡ x) × (l.cost ≡ c))

-- the cost of the only leg from u to w, or none if there is no such leg
abbrev pub IsLegCost : LevelsAndLegs → ℕ → ℕ → Option Cost → Type 0
IsLegCost H u w answer =
    MatchOption answer ((c : Cost) (m : Option ℕ) → IsLeg H u w c m → ⊥)
    (λ c. ((m : Option ℕ) × IsLeg H u w c m) × ((d : Cost) (m : Option ℕ) → IsLeg H u w d m → d ≡ c))

-- some leg from u to w costs at most this
abbrev pub HasLeg : LevelsAndLegs → ℕ → ℕ → Cost → Type 0
HasLeg H u w most = (c : Cost) × (m : Option ℕ) × IsLeg H u w c m × IsAtMost c most

-- if the arc is no loop, it has a leg that costs no more
abbrev pub IsServed : LevelsAndLegs → InArc → Type 0
IsServed H a = a.from ≢ a.to → HasLegWithin H a

-- the saved one names this hierarchy, each leg is an arc or the sum of two legs, and each arc has a leg
pub record NamesFounded (g : Network) (s : OrderAndLegs) (H : LevelsAndLegs) : Type 0 where
  pub names : NamesFor g s H
  pub bases : All (IsArcIfBase g) s.legs
  pub sums : All (IsSumIfShortcut H) s.legs
  pub served : All (IsServed H) g.arcs

-- if the error is a fault, P holds of the fault
abbrev pub IsIfFault : (CheckFault → Type 0) → CheckError → Type 0
IsIfFault P e = (f : CheckFault) → e ≡ Fault f → P f
