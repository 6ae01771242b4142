-- The list has nodes, for each of which there is a row.
use Rattle.std.proofs.Common.{◌≡◌}
use Rattle.ch_dissect.specs.Rows.{AreBelow}
use Rattle.ch_dissect.proofs.chains.Chains.take_round.Given as goal

abbrev pub invariant-loop-place : goal.invariant-loop-place
invariant-loop-place l = (l.self.rows.count ≡ l.initial.self.rows.count) × AreBelow l.initial.self.rows.count l.list.items
