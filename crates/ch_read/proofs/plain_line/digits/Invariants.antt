-- The bytes before the current one are digits, and the value is theirs.
use Rattle.ch_read.proofs.PlainLines.{HasFew}
use Rattle.ch_read.proofs.plain_line.digits.Given as goal

abbrev pub invariant-loop-count : goal.invariant-loop-count
invariant-loop-count l = HasFew l.text l.count l.value
