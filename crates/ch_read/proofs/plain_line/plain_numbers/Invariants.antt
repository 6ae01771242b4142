-- The bytes are the letter, the numbers that were read, with a space before each, and the rest.
use Rattle.std.proofs.Common.{take}
use Rattle.ch_read.proofs.PlainLines.{HasSpaced}
use Rattle.ch_read.proofs.plain_line.plain_numbers.Given as goal

abbrev pub invariant-loop-i : goal.invariant-loop-i
invariant-loop-i l = HasSpaced (take 1 l.bytes) l.bytes l.rest l.i l.values
