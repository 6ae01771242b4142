-- The node is one of them.
use Rattle.std.proofs.Common.{◌<◌}
use Rattle.ch_dissect.proofs.cutter.farthest_from_both.Given as goal

abbrev pub invariant-loop-node : goal.invariant-loop-node
invariant-loop-node l = l.farthest < l.count
