-- One more leg adds its node exactly if no other leg has that node.
use Rattle.std.proofs.Common.{◌≤◌, ◌++◌, ◌∷◌, [], ◌∙◌, append-nil, sym, ap, length, get_or, arith}
use Rattle.std.specs.Prelude.{if◌then◌else◌}
use Rattle.ch_hierarchy.proofs.theory.NoLeg.{no_leg}
use Rattle.std.proofs.lemmas.List.{take_all}
use Rattle.ch_contract.specs.Neighbours.{other_nodes}
use Rattle.ch_contract.proofs.code.Neighbours.{others_more}
use Rattle.ch_contract.proofs.order.push_nodes.Goals as goal

pub loop-leg-init : goal.loop-leg-init
loop-leg-init c = c.in_ok-reserve.ensures.items ∙ sym (append-nil c.args.list.now.items)

pub loop-leg-preserved : goal.loop-leg-preserved
loop-leg-preserved c =
    others_more c.args.list.now.items c.loop-leg.list.items c.push_unless.new.list.items c.args.legs.now c.args.others.now
    c.loop-leg.leg-index c.loop-leg-test.true c.loop-leg.invariant
    (c.in_ok-push_unless.ensures ∙ ap (λ b. if b then c.loop-leg.list.items
    else c.loop-leg.list.items ++ (get_or c.args.legs.now c.loop-leg.leg-index no_leg).node ∷ []) c.has_node.ensures)

pub returns : goal.returns
returns c =
    let past : length c.args.legs.now ≤ c.loop-leg.leg-index = omega arith in
    c.loop-leg.invariant ∙ ap (λ l. c.args.list.now.items ++ other_nodes c.args.others.now l)
    (take_all c.loop-leg.leg-index c.args.legs.now past)
