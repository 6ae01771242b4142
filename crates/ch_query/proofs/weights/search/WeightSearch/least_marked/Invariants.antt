-- The least sum and the marks are those of a search from these two ends, and each turn settles one more state.
use Rattle.ch_query.specs.Marks.{IsLeastMarked}
use Rattle.ch_query.specs.Weights.{count_unsettled_states}
use Rattle.ch_query.proofs.weights.search.WeightSearch.least_marked.Given as goal

abbrev pub invariant-loop-ends : goal.invariant-loop-ends
invariant-loop-ends l = IsLeastMarked l.hierarchy l.ends l.self l.marks l.least

abbrev pub decreases-loop-ends : goal.decreases-loop-ends
decreases-loop-ends l = count_unsettled_states l.hierarchy l.self
