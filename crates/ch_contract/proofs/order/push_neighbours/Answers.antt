-- The nodes of the legs from a node, and of those to it that are not among them, are its neighbours, each once.
use Rattle.std.proofs.Common.{◌++◌, ◌∙◌, append_assoc, ap, map}
use Rattle.ch_hierarchy.specs.declared.leg.Leg.{Leg}
use Rattle.ch_contract.specs.Neighbours.{other_nodes}
use Rattle.ch_contract.proofs.code.Neighbours.{all_others}
use Rattle.ch_contract.proofs.order.push_neighbours.Goals as goal

pub returns : goal.returns
returns c =
    let list = c.args.list.now.items in
    c.in_ok-push_nodes-2.ensures
    ∙ ap (λ l. l ++ other_nodes c.args.up.now c.args.down.now) (c.in_ok-push_nodes.ensures ∙ ap (λ l. list ++ l) (all_others c.args.up.now))
    ∙ append_assoc list (map (λ (k : Leg). k.node) c.args.up.now) (other_nodes c.args.up.now c.args.down.now)
