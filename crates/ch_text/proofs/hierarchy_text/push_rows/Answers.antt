-- The texts of the nodes' legs, one after the other, are the text of all their legs.
use Rattle.std.proofs.Common.{◌++◌, flat_map, ap, sym, ◌∙◌}
use Rattle.ch_hierarchy.specs.Written.{legs_at}
use Rattle.ch_text.specs.SaveText.{leg_text}
use Rattle.ch_text.proofs.Growing.{all_grown}
use Rattle.ch_text.proofs.Saving.{text_of_each}
use Rattle.ch_text.proofs.hierarchy_text.push_rows.Goals as goal

pub returns : goal.returns
returns c =
    all_grown (λ node. flat_map leg_text (legs_at c.args.hierarchy.now node)) c.args.nodes.now c.loop-node.node-index
    c.args.text.now.items c.loop-node.text.items c.loop-node-test.false c.loop-node.invariant
    ∙ ap (λ t. c.args.text.now.items ++ t) (sym (text_of_each leg_text (legs_at c.args.hierarchy.now) c.args.nodes.now))
