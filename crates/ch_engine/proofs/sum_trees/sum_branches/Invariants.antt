-- The nodes before the current one have their sums.
use Rattle.std.proofs.Common.{◌≡◌, ℕ, List, Contains, take, slice_index}
use Rattle.ch_query.specs.declared.sides.growing.TreeNode.{TreeNode}
use Rattle.ch_engine.specs.LegSums.{AreLegSums}
use Rattle.ch_engine.specs.Lines.{Lines}
use Rattle.ch_engine.specs.TableSums.{AreSummed}
use Rattle.ch_engine.proofs.sum_trees.sum_branches.Given as goal

abbrev pub invariant-loop-i : goal.invariant-loop-i
invariant-loop-i l = (lines : Lines) (values parents : List ℕ) → AreLegSums l.hierarchy lines values l.sums →
    ((e : TreeNode) → Contains l.tree e → e.parent ≡ slice_index parents e.node) →
    AreSummed l.side l.hierarchy lines values l.source parents (take l.i l.tree) l.branches.items
