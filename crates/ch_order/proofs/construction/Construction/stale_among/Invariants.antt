-- The nodes so far are in the queue, and they are at most as many as were looked at.
use Rattle.std.proofs.Common.{◌≤◌, length}
use Rattle.std.specs.Prelude.{All}
use Rattle.ch_order.specs.Quick.{HasKey}
use Rattle.ch_order.proofs.construction.Construction.stale_among.Given as goal

abbrev pub invariant-loop-node : goal.invariant-loop-node
invariant-loop-node l = All (HasKey l.self.waiting) l.list.items × (length l.list.items ≤ l.node-index)
