-- There are as many rows as before.
use Rattle.std.proofs.Common.{◌≡◌}
use Rattle.ch_dissect.proofs.core_rows.turn_row.Given as goal

abbrev pub invariant-loop-place : goal.invariant-loop-place
invariant-loop-place l = l.rows.count ≡ l.initial.rows.count
