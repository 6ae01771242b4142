-- The progress of contraction, one node after the other.
use Rattle.std.specs.Prelude.{◌≡◌, ◌≢◌, ℕ, ◌+◌, ◌<◌, true, false, List, length, slice_set, Option, Some, None, ℤ, ◌≤ℤ◌}
use Rattle.ch_queue.specs.Queue.{key_of, HasNone}
use Rattle.ch_graph.specs.Graph.{Network}
use Rattle.ch_hierarchy.specs.declared.leg.Leg.{Leg}
use Rattle.ch_order.specs.declared.keys.Keys.{Keys}
use Rattle.ch_contract.specs.Legs.{Legs, SameLegs, AreLegsWithin, opening}
use Rattle.ch_contract.specs.Contraction.{Contracts, IsPriorityBy}
use Rattle.ch_contract.specs.Order.{are_neighbours, next_depth, IsContractedBefore}
use Rattle.ch_hierarchy.specs.Rows.{row}
use Rattle.ch_contract.specs.LegRows.{AreLegsFrom, AreLegsTo}
use Rattle.ch_hierarchy.specs.Hierarchy.{LevelsAndLegs}

-- the remaining legs, the remaining nodes in a queue with their priorities, the depth of each node, and the level and
-- the rows of each contracted node
pub record Progress : Type 0 where
  pub legs : Legs
  pub keys : List (Option ℤ)
  pub depth : ℕ → ℕ
  pub levels : List ℕ
  pub up : ℕ → List Leg
  pub down : ℕ → List Leg
  pub contracted : ℕ

-- the key of x in the queue is its priority, for a relation that says which number that is
abbrev pub HasPriority : (ℕ → ℤ → Type 0) → List (Option ℤ) → ℕ → Type 0
HasPriority IsOf keys x = (p : ℤ) × (key_of keys x ≡ Some p) × IsOf x p

-- p is at most q, and the same number unless it is above this bound
abbrev pub IsExactUpTo : ℤ → ℤ → ℤ → Type 0
IsExactUpTo exact q p = (p ≤ℤ q) × (p ≤ℤ exact → p ≡ q)

-- p is the key of v: its priority, or if it is above the greatest exact key, at most its priority
abbrev pub IsKeyBy : Keys → ℕ → ℕ → Legs → (ℕ → ℕ) → ℕ → ℤ → Type 0
IsKeyBy keys n h L depth v p = (q : ℤ) × IsPriorityBy keys.by n h L depth v q × IsExactUpTo keys.exact q p

-- v has a key, and comes before all others that have one
pub record IsNext (keys : List (Option ℤ)) (v : ℕ) : Type 0 where
  pub priority : ℤ
  pub has : key_of keys v ≡ Some priority
  pub first : (x : ℕ) (q : ℤ) → key_of keys x ≡ Some q → IsContractedBefore priority v q x

-- no node is contracted yet, and none has a key
pub record IsOpen (g : Network) (p : Progress) : Type 0 where
  pub legs : SameLegs p.legs (opening g)
  pub limits : AreLegsWithin g.nodes (opening g)
  pub size : length p.levels ≡ g.nodes
  pub keys : (length p.keys ≡ g.nodes) × HasNone p.keys
  pub depths : (x : ℕ) → p.depth x ≡ 0
  pub contracted : p.contracted ≡ 0

-- v is taken: its rows are put in, and its level is the number of nodes taken so far; only its neighbours get new depths. IsStep
-- says how the legs change
pub record IsContractionBy (IsStep : Legs → ℕ → Legs → Type 0) (before : Progress) (v : ℕ) (after : Progress) : Type 0 where
  pub legs : IsStep before.legs v after.legs
  pub contracted : after.contracted ≡ before.contracted + 1
  pub levels : after.levels ≡ slice_set before.levels v after.contracted
  pub up : AreLegsFrom before.legs v (after.up v)
  pub down : AreLegsTo before.legs v (after.down v)
  pub rows : (x : ℕ) → x ≢ v → (after.up x ≡ before.up x) × (after.down x ≡ before.down x)
  pub depths : (x : ℕ) → after.depth x ≡ next_depth before.legs v before.depth x

-- v is contracted with witnesses of at most h legs
abbrev pub IsContraction : ℕ → ℕ → Progress → ℕ → Progress → Type 0
IsContraction n h before v after = IsContractionBy (Contracts n h) before v after

-- v is contracted and leaves the queue; only its neighbours get new keys
pub record IsStep (by : Keys) (n h : ℕ) (before : Progress) (v : ℕ) (after : Progress) : Type 0 where
  pub contraction : IsContraction n h before v after
  pub size : length after.keys ≡ length before.keys
  pub taken : key_of after.keys v ≡ None
  pub anew : (x : ℕ) → are_neighbours before.legs v x ≡ true → HasPriority (IsKeyBy by n h after.legs after.depth) after.keys x
  pub kept : (x : ℕ) → x ≢ v → are_neighbours before.legs v x ≡ false → key_of after.keys x ≡ key_of before.keys x

-- the hierarchy has these levels and rows, of all n nodes
pub record AreAll (n : ℕ) (p : Progress) (H : LevelsAndLegs) : Type 0 where
  pub level : H.level ≡ p.levels
  pub sizes : (length p.levels ≡ n) × (length H.up ≡ n) × (length H.down ≡ n)
  pub rows : (x : ℕ) → x < n → (row H.up x ≡ p.up x) × (row H.down x ≡ p.down x)
