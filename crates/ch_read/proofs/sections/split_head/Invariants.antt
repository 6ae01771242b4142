-- The lines before the rest are skipped, and each turn leaves fewer bytes.
use Rattle.std.proofs.Common.{length}
use Rattle.ch_read.proofs.Reading.{HasSkipped}
use Rattle.ch_read.proofs.sections.split_head.Given as goal

abbrev pub invariant-loop-rest : goal.invariant-loop-rest
invariant-loop-rest l = HasSkipped l.form l.bytes l.rest

abbrev pub decreases-loop-rest : goal.decreases-loop-rest
decreases-loop-rest l = length l.rest
