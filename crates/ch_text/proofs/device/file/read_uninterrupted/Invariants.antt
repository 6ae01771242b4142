-- All reads so far were interrupted.
use Rattle.std.proofs.Common.{◌≡◌, length}
use Rattle.ch_text.specs.Calls.{AreInterrupted, IsOneRead}
use Rattle.ch_text.proofs.device.file.read_uninterrupted.Given as goal

-- all reads so far were interrupted
abbrev pub invariant-loop : goal.invariant-loop
invariant-loop g l = record {
  room : length l.buffer ≡ length l.initial.buffer;
  interrupted : AreInterrupted (IsOneRead g.D.ReadOnce.read_gives) l.counter (l.initial.reader, l.initial.buffer) (l.reader, l.buffer);
}
