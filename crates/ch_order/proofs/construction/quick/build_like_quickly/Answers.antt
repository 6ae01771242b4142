-- A hierarchy that begins with some of the given nodes is kept for its graph, in whatever order the others come.
use Rattle.ch_order.proofs.QuickSteps.{after_small_kept}
use Rattle.ch_order.proofs.construction.quick.build_like_quickly.Goals as goal

pub returns-clause-kept : goal.returns-clause-kept
returns-clause-kept g c =
    after_small_kept c.args.graph.now c.args.hops.number _ _ c.in_ok-first.ensures.limits c.in_ok-contract_quickly.ensures
