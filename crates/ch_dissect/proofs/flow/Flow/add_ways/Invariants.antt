-- The flow has its room.
use Rattle.ch_dissect.specs.Flows.{IsFlowOf}
use Rattle.ch_dissect.proofs.flow.Flow.add_ways.Given as goal

abbrev pub invariant-loop : goal.invariant-loop
invariant-loop l = IsFlowOf l.part l.self
