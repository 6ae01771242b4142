-- The nodes of the search tree with their sums are the branches.
use Rattle.std.proofs.Common.{◌≡◌, sym, subst}
use Rattle.std.proofs.lemmas.Result.{on_ok_weaker}
use Rattle.ch_hierarchy.specs.Hierarchy.{LevelsAndLegs}
use Rattle.ch_query.specs.declared.sides.growing.TreeNode.{TreeNode}
use Rattle.std.specs.Prelude.{List}
use Rattle.ch_query.specs.SearchTree.{IsSearchTree}
use Rattle.ch_engine.specs.LegSums.{AreLegSums}
use Rattle.ch_engine.specs.TableSums.{AreBranches}
use Rattle.ch_engine.proofs.network.Network.find_branches.Goals as goal

pub sum_branches-requires-clause-tree : goal.sum_branches-requires-clause-tree
sum_branches-requires-clause-tree c =
    subst (λ (nodes : List TreeNode). IsSearchTree c.hierarchy-hierarchy.result.now c.args.side c.args.source nodes)
    (sym c.deref.ensures.value) c.in_ok-search_tree.ensures.tree

pub returns-clause-branches : goal.returns-clause-branches
returns-clause-branches c =
    let v = c.args.self.now in
    let H = c.hierarchy-hierarchy.result.now in
    let kept = c.args.kept.now in
    let values = kept.values.items in
    let same : H ≡ v.0 = c.hierarchy-hierarchy.ensures.same in
    on_ok_weaker _ (λ made.
    subst (λ (G : LevelsAndLegs). AreBranches c.args.side G v.1 values c.args.source c.sum_branches.new.branches.items) same
    (made v.1 values (subst (λ (G : LevelsAndLegs). AreLegSums G v.1 values kept.sums) (sym same) c.requires.kept))) c.sum_branches.ensures
