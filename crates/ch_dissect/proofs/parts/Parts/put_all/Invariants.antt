-- The nodes stay.
use Rattle.std.proofs.Common.{◌≡◌}
use Rattle.ch_dissect.proofs.parts.Parts.put_all.Given as goal

abbrev pub invariant-loop-node : goal.invariant-loop-node
invariant-loop-node l = l.self.count ≡ l.initial.self.count
