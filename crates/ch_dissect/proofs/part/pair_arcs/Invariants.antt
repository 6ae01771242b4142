-- The twins are arcs.
use Rattle.std.proofs.Common.{length}
use Rattle.ch_dissect.specs.Rows.{AreBelow}
use Rattle.ch_dissect.proofs.part.pair_arcs.Given as goal

abbrev pub invariant-loop-arc : goal.invariant-loop-arc
invariant-loop-arc l = AreBelow (length l.heads) l.twins
