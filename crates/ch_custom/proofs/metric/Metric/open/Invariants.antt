-- The rows of the nodes before this one are open.
use Rattle.std.proofs.Common.{◌≡◌, ◌+◌, length, take}
use Rattle.std.specs.Prelude.{map}
use Rattle.ch_graph.specs.Rows.{AreOrdered, rows_between}
use Rattle.ch_custom.specs.LegPairs.{no_pair}
use Rattle.ch_custom.proofs.metric.Metric.open.Given as goal

abbrev pub invariant-loop-node : goal.invariant-loop-node
invariant-loop-node l = (rows_between l.starts.items l.pairs.items ≡ map (λ z. map no_pair z) (take l.node l.topology))
    × AreOrdered l.starts.items (length l.pairs.items) × (length l.starts.items ≡ l.node + 1)
