-- The search is underway on this side alone, and the states that were found are those where it did not stall.
use Rattle.ch_hierarchy.specs.Side.{other}
use Rattle.ch_query.specs.Search.{IsEmpty}
use Rattle.ch_query.specs.Weights.{side_keys, IsWeighingOn, AreUnstalledOn, count_unsettled_on}
use Rattle.ch_query.proofs.weights.search.WeightSearch.explore.Given as goal

abbrev pub invariant-loop-weight : goal.invariant-loop-weight
invariant-loop-weight l = record {
  weighing : IsWeighingOn l.hierarchy l.ends l.side l.self;
  alone : IsEmpty (side_keys l.hierarchy (other l.side) l.self);
  unstalled : AreUnstalledOn l.hierarchy l.ends l.side l.self l.found.items;
}

abbrev pub decreases-loop-weight : goal.decreases-loop-weight
decreases-loop-weight l = count_unsettled_on l.hierarchy l.side l.self
