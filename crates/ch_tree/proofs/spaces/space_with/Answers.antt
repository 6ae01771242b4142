-- The places that were gathered are a search space.
use Rattle.std.proofs.Common.{◌+◌, arith, subst}
use Rattle.ch_tree.specs.Spaces.{AreGathered, IsBeatenAt}
use Rattle.ch_tree.proofs.theory.Least.{up_costs_least}
use Rattle.ch_tree.proofs.theory.Spaces.{space_of}
use Rattle.ch_tree.proofs.spaces.space_with.Goals as goal

pub returns-clause-space : goal.returns-clause-space
returns-clause-space c =
    let H = c.args.hierarchy.now in
    let side = c.args.start.side in
    let swept = c.pass.ensures.swept in
    let parents = c.args.parents.now in
    let most = c.most_of-most.result in
    let found = c.gather-gathered.new.found.items in
    let costs = c.pass.new.costs.items in
    let limits = c.most_of-most.ensures.limits in
    let least = up_costs_least H c.rank-first.ensures.levelled side parents c.args.start.source
    c.requires.source (most + 1) costs swept most (omega arith) limits in
    space_of H c.requires.kept c.rank-first.ensures.levelled side parents c.args.start.source (most + 1) c.requires.source
    costs swept most least c.args.start.within found c.most_of-most.ensures
    (subst (λ q. AreGathered (IsBeatenAt H side costs) parents (q + 1) most costs found) c.rank-first.ensures.rank
    (subst (λ q. AreGathered (IsBeatenAt H side q) parents (c.rank-first.result + 1) most q found) c.as_slice.ensures.value
    c.in_ok-gathered.ensures))
