-- The copied entries of the search are the search space by ranks.
use Rattle.std.proofs.Common.{sym, subst}
use Rattle.ch_query.specs.SearchSpace.{IsRankedSpace}
use Rattle.ch_query.proofs.by_weight.SearchSpaces.{space_if_listed}
use Rattle.ch_query.proofs.weights.spaces.ranked_space.Goals as goal

pub returns-clause-space : goal.returns-clause-space
returns-clause-space c =
    space_if_listed c.args.hierarchy.now c.args.start.side c.args.start.within c.args.start.source c.deref.result.now
    (subst (IsRankedSpace c.args.hierarchy.now c.args.start.side c.args.start.within c.args.start.source) (sym c.deref.ensures.value)
    c.in_ok-gather.ensures.space)
    c.from_slice.result c.from_slice.ensures.items
