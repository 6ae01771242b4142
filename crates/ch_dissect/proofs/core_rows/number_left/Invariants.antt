-- There is a name and a count for each number.
use Rattle.std.proofs.Common.{◌≡◌, ◌≤◌, vec_len}
use Rattle.ch_dissect.specs.Rows.{AreBelow}
use Rattle.ch_dissect.proofs.core_rows.number_left.Given as goal

abbrev pub invariant-loop-node : goal.invariant-loop-node
invariant-loop-node l = (l.count ≤ l.node) × (vec_len l.names ≡ l.count) × (vec_len l.counts ≡ l.count)
    × AreBelow l.chains.rows.count l.names.items
