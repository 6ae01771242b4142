-- The bytes before the current one are digits, and the value is theirs, up to the cap.
use Rattle.ch_read.proofs.Numbers.{HasDigits}
use Rattle.ch_read.proofs.number.number_of.Given as goal

abbrev pub invariant-loop-b : goal.invariant-loop-b
invariant-loop-b l = HasDigits l.word l.b-index l.value
