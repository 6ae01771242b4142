-- The letter is the word of the part.
use Rattle.ch_read.proofs.PlainLines.{word_of}
use Rattle.ch_read.proofs.plain_line.plain_item.Goals as goal

pub returns : goal.returns
returns c =
    (word_of c.args.form _ c.args.bytes.now c.requires c.in_ok-part.ensures.0, rw (c.item_size.ensures) at c.in_ok-values.ensures)
