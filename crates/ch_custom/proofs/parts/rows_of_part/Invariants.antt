-- The rows of the nodes before this one are there.
use Rattle.std.proofs.Common.{take}
use Rattle.ch_custom.specs.Parts.{AreRowsOf}
use Rattle.ch_custom.proofs.parts.rows_of_part.Given as goal

abbrev pub invariant-loop-node : goal.invariant-loop-node
invariant-loop-node l = AreRowsOf (take l.node l.rows) l.parts l.part l.own
