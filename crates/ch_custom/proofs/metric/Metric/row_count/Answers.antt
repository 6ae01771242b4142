-- There is one row fewer than there are starts.
use Rattle.std.proofs.Common.{arith, ap, length}
use Rattle.ch_graph.proofs.RowsBetween.{length-rows_between}
use Rattle.ch_custom.proofs.metric.Metric.row_count.Goals as goal

pub returns : goal.returns
returns c = omega (arith, ap length c.self.view_is, length-rows_between c.self.inside.starts.items c.self.inside.pairs.items)
