-- The flow has its room, and the way has come to a node.
use Rattle.std.proofs.Common.{◌<◌}
use Rattle.ch_dissect.specs.Flows.{IsFlowOf}
use Rattle.ch_dissect.proofs.flow.Flow.find_way.Given as goal

abbrev pub invariant-loop : goal.invariant-loop
invariant-loop l = IsFlowOf l.part l.self × (l.node < l.part.count)
