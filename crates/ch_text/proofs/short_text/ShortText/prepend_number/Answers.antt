-- A number has at most 20 digits, which fit in front of the text.
use Rattle.std.proofs.Common.{length, drop, decimal, ap, arith}
use Rattle.std.proofs.lemmas.Fmt.{length-decimal-le}
use Rattle.std.proofs.lemmas.List.{length-drop, length-append}
use Rattle.ch_text.proofs.short_text.ShortText.prepend_number.Goals as goal

pub write_digits-self-inside-requires : goal.write_digits-self-inside-requires
write_digits-self-inside-requires c =
    let fits = c.ranges.number.fits in
    let short = length-decimal-le 20 c.args.number (omega arith) (omega arith) (omega arith) in
    let size = c.self.told in
    let within = c.self.invariant in
    let room = c.requires in
    let text = ap length c.self.view_is in
    let rest = length-drop c.self.inside.start c.self.inside.bytes in
    (omega arith, omega arith)

pub returns-clause-length : goal.returns-clause-length
returns-clause-length c =
    let fits = c.ranges.number.fits in
    let short = length-decimal-le 20 c.args.number (omega arith) (omega arith) (omega arith) in
    let text = ap length c.self.view_is in
    let written = ap length c.write_digits-self-inside.ensures.written in
    let sum = length-append (decimal c.args.number) (drop c.self.inside.start c.self.inside.bytes) in
    omega arith
