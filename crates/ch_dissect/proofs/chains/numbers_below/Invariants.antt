-- The numbers before this one are there.
use Rattle.std.proofs.Common.{◌≡◌, vec_len}
use Rattle.ch_dissect.specs.Rows.{AreBelow}
use Rattle.ch_dissect.proofs.chains.numbers_below.Given as goal

abbrev pub invariant-loop-number : goal.invariant-loop-number
invariant-loop-number l = (vec_len l.numbers ≡ l.number) × AreBelow l.count l.numbers.items
