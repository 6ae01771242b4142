-- The legs of a saved hierarchy as they are judged.
use Rattle.std.specs.Prelude.{ℕ, ◌<◌, List, length, slice_index_or, Contains}
use Rattle.ch_graph.specs.declared.saved.SavedLeg.{SavedLeg}
use Rattle.ch_hierarchy.specs.declared.placing.Placed.{Placed}
use Rattle.ch_hierarchy.specs.Saved.{JoinsNodes, HasPairFault}
use Rattle.ch_hierarchy.specs.Placing.{from_of, to_of, ArePlaced}
use Rattle.ch_hierarchy.specs.Sorting.{AreInOrder}
use Rattle.ch_hierarchy.specs.Doubles.{IsTwin}

-- P fails for the element at place i, and holds for all elements before it
pub record IsFirstFailing {X : Type 0} (P : X → Type 0) (xs : List X) (i : ℕ) : Type 0 where
  pub within : i < length xs
  pub fails : (d : X) → P (slice_index_or xs i d) → ⊥
  pub before : (j : ℕ) (d : X) → j < i → P (slice_index_or xs j d)

-- the pair of the leg at place i is faulty, and no earlier leg has a faulty pair
pub record IsFirstPairFault (n : ℕ) (legs : List SavedLeg) (i : ℕ) : Type 0 where
  pub has : HasPairFault n legs i
  pub first : (j : ℕ) → j < i → HasPairFault n legs j → ⊥

-- the entries of the legs that go up from `low` to `high`, in order, where each pair of nodes occurs once
pub record IsSide (low high : SavedLeg → ℕ) (levels : List ℕ) (legs : List SavedLeg) (entries : List Placed) : Type 0 where
  pub placed : ArePlaced low high levels legs entries
  pub order : AreInOrder entries
  pub single : (p : ℕ) → IsTwin entries p → ⊥

-- each leg joins two nodes, and these are the entries of both directions
pub record ArePairs (n : ℕ) (levels : List ℕ) (legs : List SavedLeg) (ups downs : List Placed) : Type 0 where
  pub joins : (l : SavedLeg) → Contains legs l → JoinsNodes n l
  pub up : IsSide from_of to_of levels legs ups
  pub down : IsSide to_of from_of levels legs downs
