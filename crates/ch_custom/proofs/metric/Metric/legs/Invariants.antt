-- The lists of the nodes before this one are made.
use Rattle.ch_custom.specs.LegPairs.{rows_at}
use Rattle.ch_custom.proofs.theory.RowLoops.{AreMadeTo}
use Rattle.ch_custom.proofs.metric.Metric.legs.Given as goal

abbrev pub invariant-loop-node : goal.invariant-loop-node
invariant-loop-node l = AreMadeTo (rows_at l.side l.self) l.node l.lists
