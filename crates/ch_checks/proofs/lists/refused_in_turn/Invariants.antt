-- While values are inserted, there are still two lists.
use Rattle.std.proofs.Common.{◌≡◌, length}
use Rattle.ch_checks.proofs.lists.refused_in_turn.Given as goal

abbrev pub invariant-loop-value : goal.invariant-loop-value
invariant-loop-value g l = length l.lists ≡ 2
