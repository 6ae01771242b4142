-- The rows of the nodes before this one are gathered.
use Rattle.ch_custom.proofs.theory.Parts.{AreJoinedTo}
use Rattle.ch_custom.proofs.metric.Metric.gathered.Given as goal

abbrev pub invariant-loop-node : goal.invariant-loop-node
invariant-loop-node l = AreJoinedTo l.parts l.metrics l.node l.starts.items l.pairs.items
