-- There is an empty row for each node before this one.
use Rattle.std.proofs.Common.{◌≡◌, []}
use Rattle.std.specs.Prelude.{map, replicate}
use Rattle.ch_custom.proofs.pairs.Pairs.empty.Given as goal

abbrev pub invariant-loop-node : goal.invariant-loop-node
invariant-loop-node l = map (λ r. r.items) l.rows.items ≡ replicate l._node []
