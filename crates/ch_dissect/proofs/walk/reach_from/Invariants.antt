-- The queue has nodes.
use Rattle.ch_dissect.specs.Rows.{AreBelow}
use Rattle.ch_dissect.proofs.walk.reach_from.Given as goal

abbrev pub invariant-loop-arc : goal.invariant-loop-arc
invariant-loop-arc l = AreBelow l.part.count l.queue.items
