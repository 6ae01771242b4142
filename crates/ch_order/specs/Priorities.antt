-- The priorities in a queue, for a relation that says which number is the priority of a node.
use Rattle.std.specs.Prelude.{◌≡◌, ℕ, List, length, slice_index, Contains, Option, ℤ}
use Rattle.ch_queue.specs.Queue.{key_of}
use Rattle.ch_contract.specs.Remaining.{RemainingLegs, legs_of}
use Rattle.ch_order.specs.declared.keys.Keys.{Keys}
use Rattle.ch_order.specs.Progress.{Progress, HasPriority, IsKeyBy}

-- the keys of these nodes are now their priorities, and the keys of the others stay
pub record AreRefreshed (IsOf : ℕ → ℤ → Type 0) (nodes : List ℕ) (before after : List (Option ℤ)) : Type 0 where
  pub size : length after ≡ length before
  pub anew : (x : ℕ) → Contains nodes x → HasPriority IsOf after x
  pub kept : (x : ℕ) → (Contains nodes x → ⊥) → key_of after x ≡ key_of before x

-- the key of a node with the remaining legs, where this list has the depth of each node
abbrev pub IsKeyIn : Keys → RemainingLegs → ℕ → List ℕ → ℕ → ℤ → Type 0
IsKeyIn keys r h depths = IsKeyBy keys r.nodes h (legs_of r) (λ x. slice_index depths x)

-- these nodes are judged, and have keys anew; all else stays
pub record IsRanked (by : Keys) (n h : ℕ) (nodes : List ℕ) (before after : Progress) : Type 0 where
  pub rest : after ≡ record before { keys = after.keys }
  pub keys : AreRefreshed (IsKeyBy by n h before.legs before.depth) nodes before.keys after.keys
