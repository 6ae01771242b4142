-- The nodes stay.
use Rattle.std.proofs.Common.{◌≡◌}
use Rattle.ch_dissect.proofs.sharing.put_arranged.Given as goal

abbrev pub invariant-loop-number : goal.invariant-loop-number
invariant-loop-number l = l.parts.count ≡ l.initial.parts.count
