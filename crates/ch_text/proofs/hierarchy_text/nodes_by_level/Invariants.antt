-- Each node before the current one is at the place of its level.
use Rattle.ch_text.proofs.Saving.{HasPlaced}
use Rattle.ch_text.proofs.hierarchy_text.nodes_by_level.Given as goal

abbrev pub invariant-loop-node : goal.invariant-loop-node
invariant-loop-node l = HasPlaced l.hierarchy l.order.items l.node
