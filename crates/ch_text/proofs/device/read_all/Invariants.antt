-- The reads so far gave these bytes in order and none failed, and each turn adds at least one byte.
use Rattle.std.proofs.Common.{◌≡◌, ◌<◌, ◌-◌, ◌^◌, vec_len}
use Rattle.ch_text.specs.Moves.{Gave}
use Rattle.ch_text.proofs.device.read_all.Given as goal

abbrev pub invariant-loop-bytes : goal.invariant-loop-bytes
invariant-loop-bytes g l = record {
  room : 0 < vec_len l.buffer;
  failed : g.I.Input.failed l.input ≡ g.I.Input.failed l.initial.input;
  same : g.I.Input.origin l.input ≡ g.I.Input.origin l.initial.input;
  given : Gave g.I.Input.read_gives l.initial.input l.bytes.items l.input;
}

abbrev pub decreases-loop-bytes : goal.decreases-loop-bytes
decreases-loop-bytes g l = 2 ^ 64 - vec_len l.bytes
