-- The writes so far took the first bytes and none failed, and each turn leaves fewer bytes.
use Rattle.std.proofs.Common.{◌≡◌, ◌≤◌, ◌-◌, length, drop}
use Rattle.ch_text.specs.Moves.{TookBefore}
use Rattle.ch_text.proofs.device.write_all.Given as goal

abbrev pub invariant-loop-count : goal.invariant-loop-count
invariant-loop-count g l = record {
  within : l.count ≤ length l.bytes;
  failed : g.O.Output.failed l.output ≡ g.O.Output.failed l.initial.output;
  idle : g.O.Output.idle l.output ≡ g.O.Output.idle l.initial.output;
  taken : TookBefore g.O.Output.write_gives l.initial.output l.bytes (drop l.count l.bytes) l.output;
}

abbrev pub decreases-loop-count : goal.decreases-loop-count
decreases-loop-count g l = length l.bytes - l.count
