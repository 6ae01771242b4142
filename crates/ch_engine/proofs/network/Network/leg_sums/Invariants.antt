-- The nodes before the current one in the order have the words of their legs on both sides.
use Rattle.std.proofs.Common.{◌≡◌, ◌<◌, ◌≤◌, ℕ, length, slice_index}
use Rattle.ch_graph.specs.declared.limits.TheConstants.{MOST_NODES}
use Rattle.ch_hierarchy.specs.Hierarchy.{nodes_of}
use Rattle.ch_engine.specs.LegSums.{AreLegSums}
use Rattle.ch_engine.proofs.network.Network.leg_sums.Given as goal

abbrev pub invariant-loop-i : goal.invariant-loop-i
invariant-loop-i l = record {
  order : length l.sums.order.items ≡ l.i-end;
  few : l.i-end ≤ MOST_NODES;
  nodes : (k : ℕ) → k < length l.sums.order.items → slice_index l.sums.order.items k < nodes_of l.self.0;
  ups : length l.sums.ups ≡ l.i;
  downs : length l.sums.downs ≡ l.i;
  sums : AreLegSums l.self.0 l.self.1 l.values l.sums;
}
