-- The bytes from the first that is no blank up to the next blank, or to the end, are the first word.
use Rattle.std.proofs.Common.{sym, ◌∙◌}
use Rattle.ch_read.proofs.Splits.{word_found, no_word, word_to_blank, word_to_end}
use Rattle.ch_read.proofs.lines.split_word.Goals as goal

pub returns-in_err-start : goal.returns-in_err-start
returns-in_err-start c = rw (c.from_residual.ensures) (no_word c.args.text.now (sym c.in_err-start.ensures))

pub returns-in-Some : goal.returns-in-Some
returns-in-Some c =
    let found = word_found c.args.text.now c.in_ok-start.start (sym c.in_ok-start.ensures) in
    let cut = word_to_blank _ c.in-Some.end found.1 (sym c.in-Some.ensures) in
    (found.0 ∙ cut.0, cut.1)

pub returns-in-None : goal.returns-in-None
returns-in-None c =
    let found = word_found c.args.text.now c.in_ok-start.start (sym c.in_ok-start.ensures) in
    (found.0 ∙ word_to_end _ found.1 (sym c.in-None.ensures), found.1.some)
