-- The nodes so far have the priorities at their places.
use Rattle.std.proofs.Common.{take, length}
use Rattle.ch_order.specs.Priorities.{IsKeyIn}
use Rattle.ch_order.specs.Priorities.{AreRefreshed}
use Rattle.ch_order.proofs.priority.PriorityJob.set_all.Given as goal

abbrev pub invariant-loop-node : goal.invariant-loop-node
invariant-loop-node l = AreRefreshed (IsKeyIn l.self.keys l.self.remaining.now l.self.hops.number l.self.depths.now)
    (take (length l.yielded) l.nodes) l.fn.waiting l.waiting
