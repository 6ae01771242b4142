-- The map has the last weight of each key among the new weights so far.
use Rattle.std.proofs.Common.{take}
use Rattle.ch_run.specs.Weighing.{AreLatest}
use Rattle.ch_run.proofs.weighing.latest_of.Given as goal

abbrev pub invariant-loop-new : goal.invariant-loop-new
invariant-loop-new l = AreLatest (take l.new-index l.listed) l.found
