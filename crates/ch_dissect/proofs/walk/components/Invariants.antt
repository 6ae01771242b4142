-- There is a group for each node.
use Rattle.std.proofs.Common.{◌≡◌, vec_len}
use Rattle.ch_dissect.proofs.walk.components.Given as goal

abbrev pub invariant-loop-node : goal.invariant-loop-node
invariant-loop-node l = vec_len l.groups ≡ l.part.count
