-- The trees so far are those of their nodes.
use Rattle.std.proofs.Common.{◌≡◌}
use Rattle.ch_engine.specs.PlaceTrees.{AreTreesOf}
use Rattle.ch_engine.proofs.network.Network.node_trees.Given as goal

abbrev pub invariant-loop-i : goal.invariant-loop-i
invariant-loop-i l = record {
  scratch : l.scratch ≡ l.fn.scratch;
  trees : AreTreesOf l.side l.self.0 l.self.1 l.kept.values.items l.nodes.items l.trees;
}
