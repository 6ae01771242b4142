-- The words before the current place are numbers, and their values are at their places.
use Rattle.ch_read.specs.Words.{words}
use Rattle.ch_read.proofs.Numbers.{HasTaken}
use Rattle.ch_read.proofs.number.numbers_of.Given as goal

abbrev pub invariant-loop-i : goal.invariant-loop-i
invariant-loop-i l = HasTaken (words l.text) (words l.rest) l.i l.values
