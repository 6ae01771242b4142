-- The lines that were read complete no request, and each turn leaves fewer bytes pending.
use Rattle.std.proofs.Common.{◌≡◌, [], length}
use Rattle.ch_read.specs.Requests.{Gives}
use Rattle.ch_read.proofs.request_reader.RequestReader.next.Given as goal

abbrev pub invariant-loop-asked : goal.invariant-loop-asked
invariant-loop-asked l = (l.self.nodes ≡ l.initial.self.nodes) × Gives l.ended l.initial.self l.self []

abbrev pub decreases-loop-asked : goal.decreases-loop-asked
decreases-loop-asked l = length l.self.pending
