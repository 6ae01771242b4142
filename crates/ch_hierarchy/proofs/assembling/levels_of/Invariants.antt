-- Each node before the current one in the order has its place in the order as its level.
use Rattle.std.proofs.Common.{◌≡◌, length}
use Rattle.ch_hierarchy.proofs.code.OrderLevels.{HasLevels}
use Rattle.ch_hierarchy.proofs.assembling.levels_of.Given as goal

abbrev pub invariant-loop-node : goal.invariant-loop-node
invariant-loop-node l = record {
  levels : HasLevels l.n l.order l.levels.items l.node-index;
  level : l.level ≡ l.node-index;
  count : length l.order ≡ l.n;
}
