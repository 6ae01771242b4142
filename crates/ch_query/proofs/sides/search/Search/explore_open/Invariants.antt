-- The search is underway, each node that was settled and is not idle is found, and each turn settles one more node.
use Rattle.ch_query.specs.SearchTree.{AreUnstalled}
use Rattle.ch_query.specs.Underway.{IsUnderway, count_unsettled_in}
use Rattle.ch_query.proofs.sides.search.Search.explore_open.Given as goal

abbrev pub invariant-loop-cost : goal.invariant-loop-cost
invariant-loop-cost l = record {
  underway : IsUnderway l.hierarchy l.question l.self;
  unstalled : AreUnstalled l.hierarchy l.question l.self l.found.items;
}

abbrev pub decreases-loop-cost : goal.decreases-loop-cost
decreases-loop-cost l = count_unsettled_in l.hierarchy l.self
