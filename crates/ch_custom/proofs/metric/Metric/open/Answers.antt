-- One more row is open, and in the end all are.
use Rattle.std.proofs.Common.{◌∙◌, arith}
use Rattle.ch_custom.proofs.theory.Flat.{opened_more}
use Rattle.ch_custom.proofs.metric.Metric.open.Goals as goal

pub loop-node-preserved : goal.loop-node-preserved
loop-node-preserved c =
    let i = c.loop-node.invariant in
    let count = c.row_count-node-end.ensures in
    opened_more c.args.topology.now c.loop-node.starts.items c.push-in-loop-node.new.self.items c.loop-node.pairs.items
    c.open_row.new.pairs.items
    c.loop-node.node c.len.result c.row.result.now c.requires
    (omega (arith, c.loop-node-test.true)) i.0 i.1 i.2 c.row.ensures c.in_ok-open_row.ensures
    (c.len.ensures ∙ c.open_row.new.pairs.ok.0) c.in_ok-push-2.ensures.items
