-- The hierarchy with no given node and an order by depth is the one by depth, and is kept for the graph.
use Rattle.std.proofs.lemmas.Result.{IfOk-weaker}
use Rattle.ch_contract.specs.declared.measure.OrderBy.TheVariants.{Depth}
use Rattle.ch_contract.proofs.theory.BuiltKept.{hierarchies_kept}
use Rattle.ch_contract.proofs.theory.GivenNodes.{numbers_given}
use Rattle.ch_contract.proofs.theory.GivenOrders.{in_turn_from}
use Rattle.ch_order.proofs.construction.alone.build_alone.Goals as goal

pub contract_in_turn-requires : goal.contract_in_turn-requires
contract_in_turn-requires c =
    record { order = numbers_given _ _ _ _ c.as_slice.ensures.value c.in_ok-nodes.ensures c.nodes.ensures.nodes }

pub returns-clause-hierarchy : goal.returns-clause-hierarchy
returns-clause-hierarchy c =
    IfOk-weaker c.contract_in_turn.result _ _ (λ H is. in_turn_from Depth c.args.graph.now c.args.hops.number H is)
    c.contract_in_turn.ensures

pub returns-clause-kept : goal.returns-clause-kept
returns-clause-kept c =
    IfOk-weaker c.contract_in_turn.result _ _ (λ H is.
    hierarchies_kept Depth c.args.graph.now c.args.hops.number H c.ask_ahead.ensures c.args.hops.in_range is) (returns-clause-hierarchy c)
