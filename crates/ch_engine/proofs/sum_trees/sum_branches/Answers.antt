-- One more node has its sum, and in the end all are the branches of the source.
use Rattle.std.proofs.Common.{◌≡◌, List, Contains, get_or, sym, ◌∙◌, subst, take_all}
use Rattle.std.proofs.lemmas.List.{get_or_default}
use Rattle.std.proofs.lemmas.List.Elements.{Contains-get_or}
use Rattle.ch_query.specs.declared.sides.growing.TreeNode.{TreeNode}
use Rattle.ch_engine.specs.declared.sum_trees.Branch.{Branch}
use Rattle.ch_engine.specs.TableSums.{AreSummed, IsSumBack}
use Rattle.ch_engine.proofs.SumTrees.{branches_are, summed_more, summed_none}
use Rattle.ch_engine.proofs.sum_trees.sum_branches.Goals as goal

pub loop-i-init : goal.loop-i-init
loop-i-init c = λ lines values parents sums right.
    summed_none c.args.side c.args.hierarchy.now lines values c.args.source parents _
    (c.in_ok-reserve.ensures.items ∙ c.clear.ensures.items)

pub loop-i-preserved : goal.loop-i-preserved
loop-i-preserved c = λ lines values parents sums right.
    let side = c.args.side in
    let H = c.args.hierarchy.now in
    let s = c.args.source in
    let nodes = c.args.tree.now in
    let i = c.loop-i.i in
    let none : TreeNode = record { node = 0; cost = record { weight = 0; arcs = 0 }; parent = 0 } in
    let entry = get_or nodes i none in
    let branches = c.loop-i.branches.items in
    let are = c.loop-i.invariant lines values parents sums right in
    let low = c.loop-i-test.true in
    let own : entry.parent ≡ get_or parents entry.node 0 = right entry (Contains-get_or nodes i none low) in
    let before = subst (λ (l : List Branch). (e : Branch) → Contains l e → IsSumBack side H lines values s parents e.node e.sum)
    (sym c.deref.ensures.value) are.sums in
    summed_more side H lines values s parents nodes i entry low (get_or_default nodes i none entry low) branches c.push.new.self.items
    c.sum_back-sum.result c.in_ok-push.ensures.items are (c.sum_back-sum.ensures lines values parents sums own before)

pub returns : goal.returns
returns c = λ lines values sums.
    let tree = c.requires.tree in
    let nodes = c.args.tree.now in
    let are = c.loop-i.invariant lines values tree.parents sums (λ e has. (tree.sound e has).2) in
    branches_are c.args.side c.args.hierarchy.now c.requires.kept.2.levelled lines values c.args.source nodes tree c.loop-i.branches.items
    (subst (λ (ns : List TreeNode). AreSummed c.args.side c.args.hierarchy.now lines values c.args.source tree.parents ns
    c.loop-i.branches.items) (take_all _ _ c.loop-i-test.false) are)
