-- There is a side for each node before this one, and the queue has nodes.
use Rattle.std.proofs.Common.{◌≡◌, vec_len}
use Rattle.ch_dissect.specs.Rows.{AreBelow}
use Rattle.ch_dissect.proofs.separator.push_last.Given as goal

abbrev pub invariant-loop-node : goal.invariant-loop-node
invariant-loop-node l = (vec_len l.sides ≡ l.node) × AreBelow l.part.count l.queue.items
