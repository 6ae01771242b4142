-- The bytes before the current one are digits, and the value is theirs.
use Rattle.ch_read.proofs.Numbers.{HasDigits}
use Rattle.ch_read.proofs.number.first_number.Given as goal

abbrev pub invariant-loop-at : goal.invariant-loop-at
invariant-loop-at l = HasDigits l.from_word l.at l.value
