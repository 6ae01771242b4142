-- The lines before the rest are read without a fault, and each turn leaves fewer bytes.
use Rattle.std.proofs.Common.{length}
use Rattle.ch_read.proofs.Reading.{HasRead}
use Rattle.ch_read.proofs.reader.read_lines.Given as goal

abbrev pub invariant-loop-rest : goal.invariant-loop-rest
invariant-loop-rest g l = HasRead g.A.FromItem.from_item_gives g.B.FromItem.from_item_gives l.form l.initial.seen l.bytes l.rest
    l.line l.seen l.first.items l.second.items

abbrev pub decreases-loop-rest : goal.decreases-loop-rest
decreases-loop-rest g l = length l.rest
