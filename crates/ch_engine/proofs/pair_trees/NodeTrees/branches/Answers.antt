-- The node is at the place that was found.
use Rattle.std.proofs.Common.{rules, ◌≡◌, ℕ, get_or, subst}
use Rattle.std.specs.Prelude.{MatchOption, ⊤}
use Rattle.ch_engine.specs.TableSums.{AreBranches}
use Rattle.ch_engine.proofs.pair_trees.NodeTrees.branches.Goals as goal

pub returns : goal.returns
returns c = λ side H lines values trees.
    let nodes = c.args.self.now.nodes.items in
    let same : get_or nodes c.in-Ok.place 0 ≡ c.args.node = search rules in
    subst (λ (n : ℕ). MatchOption c.branches.result ⊤ (λ b. AreBranches side H lines values n b.now)) same
    (c.branches.ensures side H lines values nodes trees)
