-- The hierarchy with no given node is the one in this order, and is kept for the graph.
use Rattle.std.proofs.lemmas.Result.{IfOk-weaker}
use Rattle.ch_contract.proofs.theory.BuiltKept.{in_turn_kept}
use Rattle.ch_contract.proofs.theory.GivenNodes.{numbers_given}
use Rattle.ch_contract.proofs.theory.GivenOrders.{in_turn_from}
use Rattle.ch_order.proofs.construction.build_in_turn.Goals as goal

pub contract_in_turn-requires-clause-order : goal.contract_in_turn-requires-clause-order
contract_in_turn-requires-clause-order g c lifetimes bounds =
    numbers_given _ _ _ _ c.as_slice.ensures.value c.in_ok-nodes.ensures c.nodes.ensures.nodes

pub returns-clause-hierarchy : goal.returns-clause-hierarchy
returns-clause-hierarchy g c =
    IfOk-weaker c.contract_in_turn.result _ _ (λ H is. in_turn_from c.args.by c.args.graph.now c.args.hops.number H is)
    c.contract_in_turn.ensures

pub returns-clause-kept : goal.returns-clause-kept
returns-clause-kept g c =
    IfOk-weaker c.contract_in_turn.result _ _ (λ H is.
    in_turn_kept c.args.by c.args.graph.now c.args.hops.number H c.ask_ahead.ensures c.args.hops.in_range is) (returns-clause-hierarchy g c)
