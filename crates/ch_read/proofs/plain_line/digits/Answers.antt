-- One more digit gives ten times the value and the digit, and the first byte that is none ends the number.
use Rattle.std.proofs.Common.{sym, arith}
use Rattle.ch_read.proofs.PlainLines.{no_digit, one_digit}
use Rattle.ch_read.proofs.plain_line.digits.Goals as goal

pub loop-count-init : goal.loop-count-init
loop-count-init c = no_digit c.args.text.now

pub loop-count-preserved : goal.loop-count-preserved
loop-count-preserved c =
    one_digit c.args.text.now c.loop-count.count c.loop-count.value c.from.result c.loop-count-test.true c.requires c.loop-count.invariant
    c.if-not-is_ascii_digit.ensures.cases (sym c.if-not-is_ascii_digit.ensures.value) c.from.ensures

pub returns-then-not-is_ascii_digit : goal.returns-then-not-is_ascii_digit
returns-then-not-is_ascii_digit c = record {
  few = omega (arith, c.loop-count-test.true);
  digits = c.loop-count.invariant.digits.digits;
  value = c.loop-count.invariant.digits.value_is;
}
