-- The states where a search to its end did not stall are the search space of the source, and the search is clean again.
use Rattle.std.proofs.Common.{subst}
use Rattle.std.specs.Prelude.{OnOk}
use Rattle.ch_hierarchy.specs.Hierarchy.{nodes_of}
use Rattle.ch_query.specs.SearchSpace.{IsRankedSpace}
use Rattle.ch_query.proofs.by_weight.SearchSpaces.{one_source, space_if_done}
use Rattle.ch_query.proofs.weights.search.WeightSearch.gather.Goals as goal

pub explore-explored-requires : goal.explore-explored-requires
explore-explored-requires c = record {
  begun = c.begin_on.ensures _ (one_source c.args.start.source c.most_within.result c.args.start.side) c.most_within.ensures.limits;
}

pub returns-clause-space : goal.returns-clause-space
returns-clause-space c =
    let H = c.args.hierarchy.now in
    let start = c.args.start in
    let end = c.explore-explored.ensures in
    let found = c.explore-explored.new.found.items in
    subst (λ s. OnOk c.explore-explored.result (IsRankedSpace H start.side start.within s found))
    (one_source start.source c.most_within.result start.side)
    (space_if_done H c.requires.kept _ start.side c.explore-explored.new.self end.weighing start.within c.most_within.ensures found
    c.explore-explored.result end.done end.unstalled)

pub returns-clause-clean : goal.returns-clause-clean
returns-clause-clean c = c.clean.ensures (nodes_of c.args.hierarchy.now) c.explore-explored.ensures.weighing.sizes
