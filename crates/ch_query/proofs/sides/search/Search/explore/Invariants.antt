-- The search is underway, and each turn settles one more node.
use Rattle.ch_query.specs.Underway.{IsUnderway, count_unsettled_in}
use Rattle.ch_query.proofs.sides.search.Search.explore.Given as goal

abbrev pub invariant-loop-cost : goal.invariant-loop-cost
invariant-loop-cost l = IsUnderway l.hierarchy l.question l.self

abbrev pub decreases-loop-cost : goal.decreases-loop-cost
decreases-loop-cost l = count_unsettled_in l.hierarchy l.self
