-- The bytes before the first line feed, or all bytes without one, are the first line, and fewer bytes are left.
use Rattle.std.proofs.Common.{sym}
use Rattle.ch_read.proofs.Splits.{line_to_feed, line_to_end}
use Rattle.ch_read.proofs.lines.split_line.Goals as goal

pub returns-in-Some-clause-line : goal.returns-in-Some-clause-line
returns-in-Some-clause-line c = line_to_feed c.args.bytes.now c.in-Some.at (sym c.in-Some.ensures)

pub returns-in-None-clause-line : goal.returns-in-None-clause-line
returns-in-None-clause-line c = line_to_end c.args.bytes.now (sym c.in-None.ensures) c.requires
