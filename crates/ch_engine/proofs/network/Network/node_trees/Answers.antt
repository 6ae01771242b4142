-- One more node has its tree.
use Rattle.std.proofs.Common.{rules, ◌≡◌, ◌∙◌, ◌<◌, ℕ, List, get_or, length, sym, subst}
use Rattle.std.proofs.lemmas.List.{get_or_read}
use Rattle.ch_engine.specs.declared.sum_trees.Branch.{Branch}
use Rattle.ch_engine.specs.TableSums.{AreBranches}
use Rattle.ch_engine.proofs.network.Network.node_trees.Goals as goal

pub loop-i-preserved : goal.loop-i-preserved
loop-i-preserved c =
    let l = c.loop-i in
    let v = c.args.self.now in
    let values = c.args.kept.now.values.items in
    let nodes = c.args.nodes.items in
    let low : l.i < length nodes = search rules in
    let node : c.index-node.result.now ≡ get_or nodes l.i 0 = get_or_read nodes _ _ low c.index-node.ensures 0 in
    let made = subst (λ (es : List Branch). AreBranches c.args.side v.0 v.1 values (get_or nodes l.i 0) es) (sym c.deref.ensures.value)
    (subst (λ (n : ℕ). AreBranches c.args.side v.0 v.1 values n c.find_branches.new.room.branches.items) node
    c.in_ok-find_branches.ensures.branches) in
    record {
      scratch = c.find_branches.ensures.scratch ∙ l.invariant.scratch;
      trees = c.push.ensures c.args.side v.0 v.1 values nodes made l.invariant.trees;
    }
