-- A node that loses its cost is no longer listed as touched, so without touched nodes no cost is left.
use Rattle.std.proofs.Common.{◌∙◌}
use Rattle.std.proofs.lemmas.List.{length-set}
use Rattle.ch_contract.proofs.code.KnownViews.{touched_less}
use Rattle.ch_contract.proofs.known_costs.KnownCosts.clear.Goals as goal

pub loop-node-preserved : goal.loop-node-preserved
loop-node-preserved g c =
    let h = c.loop-node.self in
    let before = c.loop-node.invariant in (
      length-set h.costs.items c.in-Some.node c.never.result ∙ before.0,
      touched_less g.K.HeldCost.cost h c.in-Some.node
          c.never.result c.pop.new.self.items c.never.ensures c.in-Some.ensures.items before.1,
    )
