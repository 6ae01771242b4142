-- The room that a flow through a part has.
use Rattle.std.specs.Prelude.{◌≡◌, ◌≤◌, length}
use Rattle.ch_dissect.specs.declared.part.Part.{Part}
use Rattle.ch_dissect.specs.declared.flow.Flow.{Flow}
use Rattle.ch_dissect.specs.Rows.{AreBelow}

-- each arc has its room, and each node its level
pub record IsLabelled (part : Part) (flow : Flow) : Type 0 where
  pub free : length flow.free.items ≡ length part.heads.items
  pub levels : length flow.levels.items ≡ part.count

-- each node has its next arc, too
pub record IsFlowOf (part : Part) (flow : Flow) : Type 0 where
  pub labelled : IsLabelled part flow
  pub cursors : part.count ≤ length flow.cursors.items
  pub way : AreBelow (length part.heads.items) flow.way.items
