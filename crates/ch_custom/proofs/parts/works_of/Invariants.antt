-- There is a number for each node.
use Rattle.std.proofs.Common.{◌≡◌, length}
use Rattle.ch_custom.proofs.parts.works_of.Given as goal

abbrev pub invariant-loop-place : goal.invariant-loop-place
invariant-loop-place l = length l.below.items ≡ length l.rows
