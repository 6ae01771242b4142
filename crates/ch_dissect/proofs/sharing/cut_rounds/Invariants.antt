-- There is a place for each node.
use Rattle.std.proofs.Common.{◌≡◌}
use Rattle.ch_dissect.proofs.sharing.cut_rounds.Given as goal

abbrev pub invariant-loop-round : goal.invariant-loop-round
invariant-loop-round g l = l.parts.count ≡ l.rows.count
