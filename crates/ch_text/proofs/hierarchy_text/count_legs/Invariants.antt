-- The count is the number of legs of the nodes before the current one, and is small.
use Rattle.std.proofs.Common.{◌≡◌, ◌≤◌, ◌*◌, take, length, flat_map}
use Rattle.ch_graph.specs.declared.limits.TheConstants.{MOST_NODES}
use Rattle.ch_hierarchy.specs.Written.{legs_at}
use Rattle.ch_text.proofs.hierarchy_text.count_legs.Given as goal

abbrev pub invariant-loop-node : goal.invariant-loop-node
invariant-loop-node l = record {
  counts : l.count ≡ length (flat_map (legs_at l.hierarchy) (take l.node-index l.nodes));
  few : l.count ≤ l.node-index * (2 * MOST_NODES);
}
