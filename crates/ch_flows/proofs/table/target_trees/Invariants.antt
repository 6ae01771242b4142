-- The trees are those of the targets before the current one.
use Rattle.std.proofs.Common.{◌≡◌, length}
use Rattle.ch_hierarchy.specs.Hierarchy.{nodes_of}
use Rattle.ch_hierarchy.specs.declared.side.Side.TheVariants.{Down as DownSide}
use Rattle.ch_flows.specs.Cells.{AreTargetTrees, AreTreesOfNodes}
use Rattle.ch_flows.specs.Trees.{AreBranches}
use Rattle.ch_flows.proofs.table.target_trees.Given as goal

abbrev pub invariant-loop-i : goal.invariant-loop-i
invariant-loop-i l = record {
  scratch : l.scratch ≡ nodes_of l.hierarchy;
  places : length l.places.items ≡ nodes_of l.hierarchy;
  trees : AreTargetTrees l.targets l.i l.trees.items;
  nodes : AreTreesOfNodes l.hierarchy l.branches.items l.trees.items;
  branches : AreBranches DownSide l.hierarchy l.layout.links.items l.branches.items;
}
