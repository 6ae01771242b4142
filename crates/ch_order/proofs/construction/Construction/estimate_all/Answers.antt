-- One more node gets another key.
use Rattle.std.proofs.Common.{refl, ◌∙◌}
use Rattle.ch_order.proofs.QuickSteps.{rekeyed_none, rekeyed_then}
use Rattle.ch_order.proofs.construction.Construction.estimate_all.Goals as goal

pub loop-node-init : goal.loop-node-init
loop-node-init c = (c.requires.sizes, refl, rekeyed_none _, λ h is. is)

pub loop-node-preserved : goal.loop-node-preserved
loop-node-preserved c =
    let i = c.loop-node.invariant in
    let next = c.estimate.ensures in
    (next.sizes, next.nodes ∙ i.1, rekeyed_then _ _ _ i.2 next.rekeyed, λ h is. next.ready h (i.3 h is))
