-- The rows of the nodes before this one are appended.
use Rattle.std.proofs.Common.{◌≡◌, take}
use Rattle.ch_custom.proofs.pairs.Pairs.to_rows.Given as goal

abbrev pub invariant-loop-node : goal.invariant-loop-node
invariant-loop-node l = l.rows ≡ take l.node l.self
