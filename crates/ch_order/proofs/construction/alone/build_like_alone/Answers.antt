-- The hierarchy from the first nodes of a given order is one in an order like it, and is kept for the graph.
use Rattle.ch_contract.specs.declared.measure.OrderBy.TheVariants.{Depth}
use Rattle.ch_contract.proofs.theory.GivenOrders.{from_kept}
use Rattle.ch_order.proofs.construction.alone.build_like_alone.Goals as goal

pub returns-clause-hierarchy : goal.returns-clause-hierarchy
returns-clause-hierarchy c = rw (c.in_ok-first.ensures.first) at c.in_ok-contract_begun.ensures

pub returns-clause-few : goal.returns-clause-few
returns-clause-few c = rw (c.in_ok-first.ensures.first) at c.in_ok-begun.ensures.few

pub returns-clause-kept : goal.returns-clause-kept
returns-clause-kept c =
    from_kept Depth c.args.graph.now c.args.hops.number _ _ c.in_ok-first.ensures.limits c.args.hops.in_range c.in_ok-contract_begun.ensures
