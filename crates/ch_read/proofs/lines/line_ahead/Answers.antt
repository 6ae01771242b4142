-- The first line feed ends the first line whatever follows, and at the end of the input the rest is the last line.
use Rattle.std.proofs.Common.{sym, ◌<◌, length, arith}
use Rattle.std.proofs.lemmas.Bool.Decides.{nat_tests}
use Rattle.ch_read.proofs.Requests.{feed_ahead, feed_within, last_ahead}
use Rattle.ch_read.proofs.lines.line_ahead.Goals as goal

pub returns-in-Some : goal.returns-in-Some
returns-in-Some c =
    let within = feed_within c.args.bytes.now c.in-Some.at (sym c.in-Some.ensures) in
    (λ more _. feed_ahead c.args.bytes.now more c.in-Some.at (sym c.in-Some.ensures), omega arith, omega arith)

pub returns-in-None : goal.returns-in-None
returns-in-None c =
    let some : 0 < length c.args.bytes.now =
    (let e = c.if-not-is_empty.ensures in let t = c.if-not-is_empty.true in grind (arith, nat_tests)) in
    (λ more comes. last_ahead c.args.bytes.now more (sym c.in-None.ensures) some (comes c.if-ended.true), some, omega arith)
