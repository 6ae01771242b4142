-- The parts of the words, joined from their end, are their text.
use Rattle.std.proofs.Common.{◌++◌, ap, append_assoc, sym}
use Rattle.std.specs.Prelude.{codes, decimal}
use Rattle.ch_run.proofs.fault.prepend_at.Goals as goal

-- the parts of the words, joined from their end
pub returns-clause-text : goal.returns-clause-text
returns-clause-text c =
    let together = append_assoc (decimal c.args.line) c.args.words.now c.args.text.now in
    rw (c.prepend_slice-2.ensures.text, c.prepend_number.ensures.text, c.prepend_slice.ensures.text)
    (ap (λ rest. codes "request line " ++ rest) (sym together))
