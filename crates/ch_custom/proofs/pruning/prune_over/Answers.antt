-- There is a customized hierarchy, of the legs before pruning.
use Rattle.std.proofs.Common.{sym, subst}
use Rattle.ch_custom.specs.Pruning.{HasCustomized}
use Rattle.ch_custom.proofs.theory.Closed.{customized}
use Rattle.ch_custom.proofs.pruning.prune_over.Goals as goal

pub close-requires-clause-customized : goal.close-requires-clause-customized
close-requires-clause-customized c =
    subst (HasCustomized c.args.graph.now c.args.order.now) (sym c.in_ok-copied.ensures.items)
    (customized c.args.graph.now c.args.order.now c.args.levels.now c.args.rows.now c.nodes-nodes.ensures.limits c.requires.ready
    c.requires.levels _ _ c.in_ok-metric.ensures)
