-- No node is given, and all nodes are an order.
use Rattle.std.proofs.Common.{[]}
use Rattle.std.proofs.lemmas.Result.{IfOk-weaker}
use Rattle.ch_contract.proofs.theory.GivenNodes.{numbers_given}
use Rattle.ch_order.proofs.QuickSteps.{after_none, after_small_kept}
use Rattle.ch_order.proofs.construction.quick.build_quickly_alone.Goals as goal

pub begin-requires-clause-order : goal.begin-requires-clause-order
begin-requires-clause-order c κs = numbers_given _ _ _ _ c.as_slice-order.ensures.value c.in_ok-nodes.ensures c.nodes.ensures.nodes

pub returns-clause-hierarchy : goal.returns-clause-hierarchy
returns-clause-hierarchy c = IfOk-weaker c.finish_in_turn.result _ _
    (λ H is. after_none c.args.graph.now c.args.hops.number H is) c.finish_in_turn.ensures

pub returns-clause-kept : goal.returns-clause-kept
returns-clause-kept c = IfOk-weaker c.finish_in_turn.result _ _
    (λ H is. after_small_kept c.args.graph.now c.args.hops.number [] H c.in_ok-ask_ahead.ensures is) c.finish_in_turn.ensures
