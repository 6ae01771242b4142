-- Digits up to a blank or to the end are the first number, and any other word is read in two passes.
use Rattle.std.proofs.Common.{◌≤◌, ◌^◌, sym, ◌∙◌, subst, arith}
use Rattle.std.specs.Prelude.{MatchOption}
use Rattle.ch_read.specs.Words.{words}
use Rattle.ch_read.specs.Reading.{HasFirstNumber, HasNoFirstNumber}
use Rattle.ch_read.proofs.Splits.{word_found, no_word}
use Rattle.ch_read.proofs.Numbers.{more_short, number_to_blank, number_to_end}
use Rattle.ch_read.proofs.number.first_number.Goals as goal

pub returns-in_err-start : goal.returns-in_err-start
returns-in_err-start c =
    rw (c.from_residual.ensures) (subst HasNoFirstNumber (sym (no_word c.args.text.now (sym c.in_err-start.ensures))) tt)

pub returns-then-blank : goal.returns-then-blank
returns-then-blank c =
    let found = word_found c.args.text.now c.in_ok-start.start (sym c.in_ok-start.ensures) in
    let first = number_to_blank _ c.loop-at.at c.loop-at.value found.1 c.loop-at-test.true c.loop-at.invariant
    (sym c.if-blank.ensures) in
    (first.0, found.0 ∙ first.1, first.2)

pub returns-then-not-is_ascii_digit : goal.returns-then-not-is_ascii_digit
returns-then-not-is_ascii_digit c =
    let found = word_found c.args.text.now c.in_ok-start.start (sym c.in_ok-start.ensures) in
    subst (λ ws. MatchOption c.any_first_number.result (HasNoFirstNumber ws) (λ x. HasFirstNumber ws x.0 (words x.1.now)))
    (sym found.0) c.any_first_number.ensures

pub loop-at-preserved : goal.loop-at-preserved
loop-at-preserved c =
    let short : c.loop-at.value ≤ 2 ^ 60 = omega (arith, c.if-value-gt-MOST_SHORT.false) in
    more_short _ c.loop-at.at c.loop-at.value c.from.result c.loop-at-test.true c.loop-at.invariant short
    c.if-not-is_ascii_digit.ensures.cases (sym c.if-not-is_ascii_digit.ensures.value) c.from.ensures

pub returns : goal.returns
returns c =
    let found = word_found c.args.text.now c.in_ok-start.start (sym c.in_ok-start.ensures) in
    let first = number_to_end _ c.loop-at.at c.loop-at.value found.1 c.loop-at-test.false c.loop-at.invariant in
    (first.0, found.0 ∙ first.1, first.2)
