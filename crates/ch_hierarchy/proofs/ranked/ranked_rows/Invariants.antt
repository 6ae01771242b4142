-- The rows are those of the nodes before the current one, two for each.
use Rattle.std.proofs.Common.{take}
use Rattle.ch_hierarchy.specs.Ranked.{AreRankedRows}
use Rattle.ch_hierarchy.proofs.ranked.ranked_rows.Given as goal

-- the rows are those of the nodes so far
abbrev pub invariant-loop-node : goal.invariant-loop-node
invariant-loop-node l = AreRankedRows l.levels (take l.node-index l.nodes) l.ups l.downs l.rows
