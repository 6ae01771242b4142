-- Each row before the current one is in order and cut.
use Rattle.std.proofs.Common.{◌≡◌, ◌<◌, ℕ, length}
use Rattle.ch_rows.proofs.Filled.{IsCut}
use Rattle.ch_rows.proofs.first.first_of_each.Given as goal

abbrev pub invariant-loop-i : goal.invariant-loop-i
invariant-loop-i l = record {
  size : length l.firsts ≡ l.i;
  each : (k : ℕ) → k < l.i → IsCut l.count l.rows l.firsts k;
}
