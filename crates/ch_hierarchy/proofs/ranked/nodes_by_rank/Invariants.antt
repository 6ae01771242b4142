-- Each node before the current one is at its rank.
use Rattle.ch_hierarchy.proofs.code.Ranked.{HasByRank}
use Rattle.ch_hierarchy.proofs.ranked.nodes_by_rank.Given as goal

abbrev pub invariant-loop-node : goal.invariant-loop-node
invariant-loop-node l = HasByRank l.levels l.nodes.items l.node
