-- One more digit gives ten times the value and the digit, up to the cap, and any other byte is no number.
use Rattle.std.proofs.Common.{sym, refl}
use Rattle.ch_read.proofs.Numbers.{more_digits, all_digits, not_digits, no_number}
use Rattle.ch_read.proofs.number.number_of.Goals as goal

pub loop-b-preserved : goal.loop-b-preserved
loop-b-preserved c =
    more_digits c.args.word.now c.loop-b.b-index c.loop-b.value _ _ c.loop-b-test.true c.loop-b.invariant
    c.if-not-is_ascii_digit.ensures.cases
    (sym c.if-not-is_ascii_digit.ensures.value) c.from.ensures (rw (c.saturating_add-value.ensures, c.saturating_mul.ensures) refl)

pub returns-then-not-is_ascii_digit : goal.returns-then-not-is_ascii_digit
returns-then-not-is_ascii_digit c =
    let none = no_number c.args.word.now
    (not_digits c.args.word.now c.loop-b.b-index c.loop-b-test.true (sym c.if-not-is_ascii_digit.ensures.value)) in
    rw none refl

pub returns : goal.returns
returns c = all_digits c.args.word.now c.loop-b.b-index c.loop-b.value c.requires c.loop-b-test.false c.loop-b.invariant
