-- The first line feed after the searched bytes is the first of all bytes.
use Rattle.std.proofs.Common.{sym, eqb}
use Rattle.std.proofs.lemmas.List.{take_rest}
use Rattle.ch_read.proofs.Splits.{found_after, none_after}
use Rattle.ch_read.proofs.lines.line_feed_past.Goals as goal

pub returns-in_err-at : goal.returns-in_err-at
returns-in_err-at c = rw (c.from_residual.ensures)
    (sym (none_after (λ b. eqb b 10) c.args.bytes.now c.args.searched c.requires.inside c.requires.none
    (rw (take_rest c.args.bytes.now c.args.searched) at (sym c.in_err-at.ensures))))

pub returns : goal.returns
returns c = sym (found_after (λ b. eqb b 10) c.args.bytes.now c.args.searched c.requires.inside c.requires.none c.in_ok-at.at
    (rw (take_rest c.args.bytes.now c.args.searched) at (sym c.in_ok-at.ensures)))
