-- All writes so far were interrupted.
use Rattle.ch_text.specs.Calls.{AreInterrupted, IsOneWrite}
use Rattle.ch_text.proofs.device.file.write_uninterrupted.Given as goal

-- all writes so far were interrupted
abbrev pub invariant-loop : goal.invariant-loop
invariant-loop g l = record {
  interrupted : AreInterrupted (IsOneWrite g.D.WriteOnce.write_gives l.bytes) l.counter l.initial.writer l.writer;
}
