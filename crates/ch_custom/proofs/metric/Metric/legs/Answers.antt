-- All lists are made.
use Rattle.std.proofs.Common.{arith}
use Rattle.ch_custom.specs.LegPairs.{rows_at}
use Rattle.ch_custom.proofs.theory.LegPairs.{rows_size}
use Rattle.ch_custom.proofs.theory.RowLoops.{all_made}
use Rattle.ch_custom.proofs.metric.Metric.legs.Goals as goal

pub returns : goal.returns
returns c =
    let a = c.loop-node.invariant in
    let past = c.loop-node-test.false in
    let end = c.row_count-node-end.ensures in
    let size = rows_size c.args.side c.args.self.now in
    all_made (rows_at c.args.side c.args.self.now) c.loop-node.lists a.size (λ k lt. a.made k (omega arith) lt)
