-- The digits after a space are a number.
use Rattle.std.proofs.Common.{◌≡◌, ℕ, ◌-◌, ◌<◌, ◌≤◌, List, length, take, drop, ◌∙◌, ap, arith, length-drop}
use Rattle.std.proofs.lemmas.List.{take_rest}
use Rattle.ch_read.proofs.PlainLines.{after_space}
use Rattle.ch_read.proofs.plain_line.spaced_number.Goals as goal

pub returns : goal.returns
returns c =
    let long = c.if-bytes-le-MOST_DIGITS.false in
    let text : List ℕ = take (length c.args.bytes.now - 1) (drop 1 c.args.bytes.now) in
    let text_long : length text ≡ length c.args.bytes.now - 1 = ap length (take_rest c.args.bytes.now 1) ∙ length-drop 1 c.args.bytes.now in
    let some : 0 < c.digits-value.result.1 = omega (arith, c.if-count-eq0.false) in
    let few = c.digits-value.ensures.few in
    let within : c.digits-value.result.1 ≤ length text = omega arith in
    after_space c.args.bytes.now text _ c.digits-value.result.1 _ (omega arith) c.if-bytes-ne32.false (take_rest c.args.bytes.now 1)
    (take_rest text c.digits-value.result.1) some within c.digits-value.ensures.digits c.digits-value.ensures.value
