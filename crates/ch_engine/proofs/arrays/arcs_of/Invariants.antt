-- The arcs so far are those of the first places of the arrays.
use Rattle.std.proofs.Common.{take}
use Rattle.ch_engine.specs.Opened.{AreArcsOf}
use Rattle.ch_engine.proofs.arrays.arcs_of.Given as goal

abbrev pub invariant-loop-k : goal.invariant-loop-k
invariant-loop-k l = AreArcsOf (take l.k l.tails) (take l.k l.heads) (take l.k l.weights) l.arcs.items
