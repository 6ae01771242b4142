-- There is a place for each node.
use Rattle.std.proofs.Common.{◌≡◌}
use Rattle.ch_dissect.proofs.cutter.Cutter.cut_all.Given as goal

abbrev pub invariant-loop : goal.invariant-loop
invariant-loop l = l.parts.count ≡ l.rows.count
