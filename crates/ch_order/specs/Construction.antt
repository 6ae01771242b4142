-- A hierarchy that is being built one node after the other.
use Rattle.std.specs.Prelude.{◌≡◌, ◌+◌, ◌<◌, ◌≤◌, ℕ, All, List, None, length, slice_index, slice_set}
use Rattle.ch_graph.specs.declared.limits.TheConstants.{MOST_NODES}
use Rattle.ch_graph.specs.Graph.{Network}
use Rattle.ch_hierarchy.specs.Rows.{row}
use Rattle.ch_order.specs.declared.construction.Construction.{Construction}
use Rattle.ch_order.specs.Progress.{Progress}
use Rattle.ch_order.specs.Steps.{IsAfterGiven}
use Rattle.ch_contract.specs.Legs.{AreLegsWithin, turned_legs}
use Rattle.ch_contract.specs.Contraction.{Contracts}
use Rattle.ch_contract.specs.Measures.{AreDeepened}
use Rattle.ch_contract.specs.Neighbours.{neighbours_in}
use Rattle.ch_contract.specs.Remaining.{legs_of, IsSetAside}
use Rattle.ch_contract.specs.Rooms.{IsIdleRoom, IsReady}

-- the progress of the construction: the rows are the legs that were set aside
abbrev pub progress_of : Construction → Progress
progress_of c = record {
  legs = legs_of c.remaining;
  keys = c.waiting;
  depth = λ x. slice_index c.depths.items x;
  levels =
      c.levels.items;
  up = λ x. row c.remaining.ups x;
  down = λ x. row c.remaining.downs x;
  contracted = c.contracted;
}

-- each node has a key, a depth, a level, an up row and a down row
pub record IsSized (c : Construction) : Type 0 where
  pub nodes : c.remaining.nodes ≤ MOST_NODES
  pub keys : length c.waiting ≡ c.remaining.nodes
  pub depths : length c.depths.items ≡ c.remaining.nodes
  pub levels : length c.levels.items ≡ c.remaining.nodes
  pub ups : length c.remaining.ups ≡ c.remaining.nodes
  pub downs : length c.remaining.downs ≡ c.remaining.nodes

-- the caller's room is ready to judge nodes with the remaining legs, and the workers' rooms are idle
abbrev pub IsJudging : ℕ → Construction → Type 0
IsJudging h c = IsReady c.remaining.nodes h (legs_of c.remaining) c.room × All IsIdleRoom c.rooms.items

-- the given nodes are contracted, as they come, and no other node is; none has a priority
pub record HasGiven (g : Network) (h : ℕ) (given : List ℕ) (c : Construction) : Type 0 where
  pub sizes : IsSized c
  pub nodes : c.remaining.nodes ≡ g.nodes
  pub after : IsAfterGiven g h given (progress_of c)
  pub ready : IsJudging h c

-- v can be contracted next, where a witness has at most h legs
pub record IsReadyFor (h : ℕ) (c : Construction) (v : ℕ) : Type 0 where
  pub sizes : IsSized c
  pub limits : AreLegsWithin c.remaining.nodes (legs_of c.remaining)
  pub node : v < c.remaining.nodes
  pub count : c.contracted < c.remaining.nodes
  pub depth : slice_index c.depths.items v ≤ c.contracted
  pub ready : IsJudging h c

-- v is contracted and out of the queue, with its level, and its neighbours lie deeper. The priorities of the neighbours are
-- unchanged
pub record IsTaken (h : ℕ) (before : Construction) (v : ℕ) (neighbours : List ℕ) (after : Construction) : Type 0 where
  pub nodes : after.remaining.nodes ≡ before.remaining.nodes
  pub legs : Contracts before.remaining.nodes h (legs_of before.remaining) v (legs_of after.remaining)
  pub up : IsSetAside (legs_of before.remaining) v before.remaining.ups after.remaining.ups
  pub down : IsSetAside (turned_legs (legs_of before.remaining)) v before.remaining.downs after.remaining.downs
  pub listed : neighbours ≡ neighbours_in (row after.remaining.ups v) (row after.remaining.downs v)
  pub deeper : AreDeepened neighbours (slice_index before.depths.items v + 1) before.depths.items after.depths.items
  pub waiting : after.waiting ≡ slice_set before.waiting v None
  pub contracted : after.contracted ≡ before.contracted + 1
  pub levels : after.levels.items ≡ slice_set before.levels.items v after.contracted
  pub ready : IsJudging h after
