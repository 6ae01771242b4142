-- The nodes that the search found, listed with what it knows of them, are the tree.
use Rattle.std.proofs.Common.{sym, subst}
use Rattle.std.proofs.lemmas.Result.{on_ok_weaker}
use Rattle.ch_query.specs.Questions.{stalling}
use Rattle.ch_query.specs.SearchTree.{AreUnstalled}
use Rattle.ch_query.proofs.routing.SearchTrees.{tree_is, unstalled_none}
use Rattle.ch_query.proofs.sides.search.Search.find_tree.Goals as goal

pub explore_open-requires-clause-unstalled : goal.explore_open-requires-clause-unstalled
explore_open-requires-clause-unstalled c = unstalled_none _ _ c.args.self.now _ c.requires.fresh c.new-ranks.ensures.items

pub list_known-requires-clause-underway : goal.list_known-requires-clause-underway
list_known-requires-clause-underway c = (_, c.explore_open.ensures.underway)

pub returns-clause-tree : goal.returns-clause-tree
returns-clause-tree c =
    let H = c.args.hierarchy.now in
    let found = c.in_ok-explore_open.ensures in
    let asked = stalling c.args.side c.args.source in
    let unstalled = subst (AreUnstalled H asked c.explore_open.new.self) (sym c.deref.ensures.value) found.unstalled in
    on_ok_weaker _ (λ listed. tree_is H c.requires.kept c.args.side c.args.source c.explore_open.new.self c.explore_open.ensures.underway
    found.done _ unstalled _ listed) c.list_known.ensures
