-- The lines of the sections so far and then those of the rest are the lines of all bytes, and each turn leaves fewer bytes.
use Rattle.std.proofs.Common.{◌≡◌, ◌++◌, length}
use Rattle.std.specs.List.{flat_map}
use Rattle.ch_read.specs.Words.{lines}
use Rattle.ch_read.proofs.sections.cut.Given as goal

abbrev pub invariant-loop-section : goal.invariant-loop-section
invariant-loop-section l = lines l.bytes ≡ flat_map (λ section. lines section.now) l.sections.items ++ lines l.rest

abbrev pub decreases-loop-section : goal.decreases-loop-section
decreases-loop-section l = length l.rest
