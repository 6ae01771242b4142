-- The nodes of the pieces so far have the priorities that they have now, and each turn takes a piece of at least one node.
use Rattle.std.proofs.Common.{◌≤◌, ◌-◌, length, take}
use Rattle.ch_contract.specs.Rooms.{IsReady}
use Rattle.ch_contract.specs.Remaining.{legs_of}
use Rattle.ch_order.specs.Priorities.{AreRefreshed, IsKeyIn}
use Rattle.ch_order.proofs.priority.PriorityJob.refresh.Given as goal

abbrev pub invariant-loop-from : goal.invariant-loop-from
invariant-loop-from g l =
    (l.number ≤ l.from)
    × (l.from ≤ length l.nodes)
    × AreRefreshed (IsKeyIn l.self.keys l.self.remaining.now l.self.hops.number l.self.depths.now) (take l.from l.nodes) l.fn.waiting
    l.waiting
    × IsReady l.self.remaining.now.nodes l.self.hops.number (legs_of l.self.remaining.now) l.room

abbrev pub decreases-loop-from : goal.decreases-loop-from
decreases-loop-from g l = length l.nodes - l.from
