-- There is a number for each node before this one.
use Rattle.std.proofs.Common.{◌≡◌, length}
use Rattle.ch_custom.proofs.metric.Metric.rooms.Given as goal

abbrev pub invariant-loop-node : goal.invariant-loop-node
invariant-loop-node l = length l.rooms.items ≡ l.node
