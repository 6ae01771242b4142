-- One more word is the next number, and a word that is none, or a word too many or too few, leaves no numbers.
use Rattle.std.proofs.Common.{◌<◌, ◌≡◌, subst, arith}
use Rattle.ch_read.specs.Words.{words}
use Rattle.ch_read.proofs.Numbers.{HasTaken, none_taken, take_one, no_first_number, all_taken}
use Rattle.ch_read.proofs.number.numbers_of.Goals as goal

pub loop-i-init : goal.loop-i-init
loop-i-init c = none_taken (words c.args.text.now)

pub loop-i-preserved : goal.loop-i-preserved
loop-i-preserved c =
    let within : c.loop-i.i < 5 = omega arith in
    let first = c.in_ok-value.ensures in
    take_one (words c.args.text.now) _ _ _ c.loop-i.i _ _ within c.loop-i.invariant first.1 first.2

pub returns-in_err-value : goal.returns-in_err-value
returns-in_err-value c = rw (c.from_residual.ensures)
    (no_first_number (words c.args.text.now) _ c.loop-i.i c.args.count _ c.loop-i.invariant c.loop-i-test.true
    c.in_err-value.ensures)

pub returns-in-None : goal.returns-in-None
returns-in-None c =
    let end : c.loop-i.i ≡ c.args.count = omega arith in
    all_taken (words c.args.text.now) _ c.args.count _
    (subst (λ i. HasTaken (words c.args.text.now) (words c.loop-i.rest.now) i c.loop-i.values) end c.loop-i.invariant) c.in-None.ensures
