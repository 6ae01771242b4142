-- There is a side for each node before this one.
use Rattle.std.proofs.Common.{◌≡◌, vec_len}
use Rattle.ch_dissect.proofs.separator.push_reached.Given as goal

abbrev pub invariant-loop-node : goal.invariant-loop-node
invariant-loop-node l = vec_len l.sides ≡ l.node
