-- The progress after some nodes are contracted, one after the other in any order.
use Rattle.std.specs.Prelude.{◌≡◌, ℕ, List, length}
use Rattle.ch_queue.specs.Queue.{HasNone}
use Rattle.ch_graph.specs.Graph.{Network}
use Rattle.ch_contract.specs.Legs.{Legs, SameLegs, AreLegsWithin, opening}
use Rattle.ch_contract.specs.Contraction.{Contracts}
use Rattle.ch_contract.specs.LegRows.{AreLegsFrom, AreLegsTo}
use Rattle.ch_contract.specs.Order.{depth_after}
use Rattle.ch_contract.specs.Begun.{IsBegunBy, AreLevels, AreRowsBy}
use Rattle.ch_order.specs.Progress.{Progress}

-- the progress after the nodes of this list are taken, whatever keys the others have. IsStep says how a step changes the legs
pub record IsAfterStepsBy (IsStep : Legs → ℕ → Legs → Type 0) (g : Network) (order : List ℕ) (L : ℕ → Legs) (p : Progress) : Type 0 where
  pub begun : IsBegunBy IsStep g order L
  pub limits : AreLegsWithin g.nodes (opening g)
  pub contracted : p.contracted ≡ length order
  pub legs : SameLegs (L (length order)) p.legs
  pub size : length p.levels ≡ g.nodes
  pub levels : AreLevels order p.levels
  pub depths : (x : ℕ) → p.depth x ≡ depth_after order L (length order) x
  pub up : AreRowsBy AreLegsFrom order L p.up
  pub down : AreRowsBy AreLegsTo order L p.down

-- the progress after the nodes of this list are contracted with witnesses of at most h legs
abbrev pub IsAfterSteps : Network → ℕ → List ℕ → (ℕ → Legs) → Progress → Type 0
IsAfterSteps g h order L p = IsAfterStepsBy (Contracts g.nodes h) g order L p

-- the nodes of this list are contracted in its order, and no node has a key
pub record IsAfterGiven (g : Network) (h : ℕ) (given : List ℕ) (p : Progress) : Type 0 where
  pub L : ℕ → Legs
  pub after : IsAfterSteps g h given L p
  pub keys : (length p.keys ≡ g.nodes) × HasNone p.keys
