-- The nodes before the current one have the priorities that they have now, and the workspace keeps no shortcuts.
use Rattle.std.proofs.Common.{take}
use Rattle.ch_contract.specs.Rooms.{IsIdleRoom}
use Rattle.ch_order.specs.Priorities.{AreRefreshed, IsKeyIn}
use Rattle.ch_order.proofs.priority.PriorityJob.set_in_turn.Given as goal

abbrev pub invariant-loop-node : goal.invariant-loop-node
invariant-loop-node l =
    AreRefreshed (IsKeyIn l.self.keys l.self.remaining.now l.self.hops.number l.self.depths.now) (take l.node-index l.nodes)
    l.fn.waiting l.waiting
    × IsIdleRoom l.room
