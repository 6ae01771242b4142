-- The nodes before the current one have the priorities that they have now, and the shortcuts of the workspace are still right.
use Rattle.std.proofs.Common.{take}
use Rattle.ch_contract.specs.Rooms.{IsReady}
use Rattle.ch_contract.specs.Remaining.{legs_of}
use Rattle.ch_order.specs.Priorities.{AreRefreshed, IsKeyIn}
use Rattle.ch_order.proofs.priority.PriorityJob.refresh_here.Given as goal

abbrev pub invariant-loop-node : goal.invariant-loop-node
invariant-loop-node l =
    AreRefreshed (IsKeyIn l.self.keys l.self.remaining.now l.self.hops.number l.self.depths.now) (take l.node-index l.nodes)
    l.fn.waiting l.waiting
    × IsReady l.self.remaining.now.nodes l.self.hops.number (legs_of l.self.remaining.now) l.room
