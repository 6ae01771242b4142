-- One more number after a space is the next number of the line, and the line feed ends it.
use Rattle.std.proofs.Common.{◌≡◌, ◌<◌, length, take, subst, arith}
use Rattle.std.proofs.lemmas.Bool.Decides.{nat_tests}
use Rattle.std.proofs.lemmas.List.{take_rest}
use Rattle.ch_read.proofs.PlainLines.{HasSpaced, none_spaced, one_spaced, spaced_line}
use Rattle.ch_read.proofs.plain_line.plain_numbers.Goals as goal

pub loop-i-init : goal.loop-i-init
loop-i-init c = rw (take_rest c.args.bytes.now 1) (none_spaced c.args.bytes.now)

pub loop-i-preserved : goal.loop-i-preserved
loop-i-preserved c =
    let within : c.loop-i.i < 5 = omega arith in
    one_spaced _ _ _ _ c.loop-i.i _ _ within c.loop-i.invariant c.in_ok-value.ensures

pub returns : goal.returns
returns c =
    let some : 0 < length c.loop-i.rest.now = (let e = c.is_empty.ensures in let t = c.if-is_empty.false in grind (arith, nat_tests)) in
    let end : c.loop-i.i ≡ c.args.count = omega arith in
    spaced_line c.args.bytes.now c.loop-i.rest.now _ c.args.count _ c.requires.some c.requires.letter
    (subst (λ i. HasSpaced (take 1 c.args.bytes.now) c.args.bytes.now c.loop-i.rest.now i c.loop-i.values) end c.loop-i.invariant)
    some c.if-rest-ne10.false (take_rest c.loop-i.rest.now 1)
