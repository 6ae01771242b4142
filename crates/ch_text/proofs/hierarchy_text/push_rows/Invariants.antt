-- The text has grown by the legs of the nodes before the current one.
use Rattle.std.proofs.Common.{◌≡◌, ◌++◌, take, flat_map}
use Rattle.ch_hierarchy.specs.Written.{legs_at}
use Rattle.ch_text.specs.SaveText.{leg_text}
use Rattle.ch_text.proofs.hierarchy_text.push_rows.Given as goal

abbrev pub invariant-loop-node : goal.invariant-loop-node
invariant-loop-node l =
    l.text.items ≡ l.fn.text.items ++ flat_map (λ node. flat_map leg_text (legs_at l.hierarchy node)) (take l.node-index l.nodes)
