-- There is a row for each number.
use Rattle.std.proofs.Common.{◌≡◌}
use Rattle.ch_dissect.proofs.core_rows.Core.of.Given as goal

abbrev pub invariant-loop-number : goal.invariant-loop-number
invariant-loop-number l = l.rows.count ≡ l.count
