-- Each arc has its room.
use Rattle.std.proofs.Common.{◌≡◌, vec_len}
use Rattle.ch_dissect.proofs.flow.Flow.run.Given as goal

abbrev pub invariant-loop : goal.invariant-loop
invariant-loop l = vec_len l.self.free ≡ vec_len l.part.heads
