-- The list has the nodes before the current one.
use Rattle.std.proofs.Common.{◌≡◌}
use Rattle.ch_text.specs.NearText.{nodes_in_order}
use Rattle.ch_run.proofs.run.near_texts.all_nodes.Given as goal

abbrev pub invariant-loop-node : goal.invariant-loop-node
invariant-loop-node l = l.all.items ≡ nodes_in_order l.node
