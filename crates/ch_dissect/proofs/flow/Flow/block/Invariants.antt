-- The flow has its room.
use Rattle.ch_dissect.specs.Flows.{IsFlowOf}
use Rattle.ch_dissect.proofs.flow.Flow.block.Given as goal

abbrev pub invariant-loop-node : goal.invariant-loop-node
invariant-loop-node l = IsFlowOf l.part l.self
