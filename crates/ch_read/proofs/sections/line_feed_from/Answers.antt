-- The first line feed of the bytes from a place on is a line feed of all bytes at that place.
use Rattle.std.proofs.Common.{sym}
use Rattle.std.proofs.lemmas.List.{take_rest}
use Rattle.ch_read.proofs.Cuts.{feed_from}
use Rattle.ch_read.proofs.sections.line_feed_from.Goals as goal

pub returns : goal.returns
returns c = feed_from c.args.bytes.now c.args.from c.in_ok-at.at (rw (take_rest c.args.bytes.now c.args.from) at (sym c.in_ok-at.ensures))
