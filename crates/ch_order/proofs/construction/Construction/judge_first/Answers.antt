-- One more node is judged, so the nodes of the queue have other keys and all else stays.
use Rattle.std.proofs.Common.{◌∙◌}
use Rattle.ch_order.proofs.QuickSteps.{rekeyed_then}
use Rattle.ch_order.proofs.construction.Construction.judge_first.Goals as goal

pub loop-preserved : goal.loop-preserved
loop-preserved c =
    let i = c.loop.invariant in
    let next = c.in_ok-node.ensures in
    (next.sizes, next.nodes ∙ i.1, rekeyed_then _ _ _ i.2 next.rekeyed, next.first, next.ready)
