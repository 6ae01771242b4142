-- The set has the keys of the new weights so far.
use Rattle.std.proofs.Common.{All, take}
use Rattle.std.specs.Prelude.{IsTrue}
use Rattle.std.specs.Ordering.{nat_cmp}
use Rattle.std.specs.BTreeSet.{contains}
use Rattle.ch_run.specs.Weighing.{key_of}
use Rattle.ch_run.proofs.weighing.first_unmet.Given as goal

abbrev pub invariant-loop-new : goal.invariant-loop-new
invariant-loop-new l = All (λ new. IsTrue (contains nat_cmp l.met (key_of new.from new.to))) (take l.new-index l.listed)
