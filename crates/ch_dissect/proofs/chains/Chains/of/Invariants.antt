-- There is a row for each node.
use Rattle.std.proofs.Common.{◌≡◌}
use Rattle.ch_dissect.proofs.chains.Chains.of.Given as goal

abbrev pub invariant-loop : goal.invariant-loop
invariant-loop l = l.chains.rows.count ≡ l.count
