-- The twins are arcs.
use Rattle.std.proofs.Common.{length}
use Rattle.ch_dissect.specs.Rows.{AreBelow}
use Rattle.ch_dissect.proofs.part.pair_all.Given as goal

abbrev pub invariant-loop-node : goal.invariant-loop-node
invariant-loop-node l = AreBelow (length l.heads) l.twins
