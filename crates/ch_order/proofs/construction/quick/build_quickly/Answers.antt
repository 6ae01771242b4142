-- No node is given, and all nodes are an order.
use Rattle.std.proofs.Common.{[]}
use Rattle.std.proofs.lemmas.Result.{IfOk-weaker}
use Rattle.ch_contract.proofs.theory.GivenNodes.{numbers_given}
use Rattle.ch_order.proofs.QuickSteps.{after_none, after_small_kept}
use Rattle.ch_order.proofs.construction.quick.build_quickly.Goals as goal

pub contract_quickly-requires-clause-order : goal.contract_quickly-requires-clause-order
contract_quickly-requires-clause-order g c lifetimes bounds =
    numbers_given _ _ _ _ c.as_slice.ensures.value c.in_ok-nodes.ensures c.nodes.ensures.nodes

pub returns-clause-hierarchy : goal.returns-clause-hierarchy
returns-clause-hierarchy g c = IfOk-weaker c.contract_quickly.result _ _
    (λ H is. after_none c.args.graph.now c.args.hops.number H is) c.contract_quickly.ensures

pub returns-clause-kept : goal.returns-clause-kept
returns-clause-kept g c = IfOk-weaker c.contract_quickly.result _ _
    (λ H is. after_small_kept c.args.graph.now c.args.hops.number [] H c.ask_ahead.ensures is) c.contract_quickly.ensures
