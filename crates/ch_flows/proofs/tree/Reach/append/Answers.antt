-- One more branch.
use Rattle.std.proofs.Common.{List, length, subst}
use Rattle.ch_flows.specs.declared.gathering.Branch.{Branch as AnyBranch}
use Rattle.ch_flows.specs.Trees.{GoesOn}
use Rattle.ch_flows.proofs.Branches.{branches_more}
use Rattle.ch_flows.proofs.tree.Reach.append.Goals as goal

pub returns-clause-branches : goal.returns-clause-branches
returns-clause-branches c = λ side H links reach are.
    let branch = c.in-Some.branch in
    branches_more side H links c.args.branches.now.items c.push.new.self.items branch (c.in_ok-push.ensures {u = tt}).items are
    (subst (λ (l : List AnyBranch). GoesOn side H links l (length l) branch) c.deref.ensures.value
    ((c.in-Some.ensures {u = tt}) side H links reach))
