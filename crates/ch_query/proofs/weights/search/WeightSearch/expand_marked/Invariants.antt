-- The legs before the current one were taken from the settled state, and their ends were marked.
use Rattle.std.proofs.Common.{take}
use Rattle.ch_hierarchy.specs.Rows.{row}
use Rattle.ch_hierarchy.specs.Side.{rows_of}
use Rattle.ch_query.specs.Weighed.{weighed}
use Rattle.ch_query.specs.Weights.{AtRank, IsPartlyWeighed}
use Rattle.ch_query.proofs.by_weight.Marking.{IsPartlyMarked}
use Rattle.ch_query.proofs.weights.search.WeightSearch.expand_marked.Given as goal

abbrev pub invariant-loop-leg : goal.invariant-loop-leg
invariant-loop-leg l = record {
  weighing : AtRank l.hierarchy l.rank (λ v. IsPartlyWeighed l.hierarchy l.ends l.side l.fn.self l.self v l.weight
      (take l.leg-index (row (rows_of (weighed l.hierarchy) l.side) v)));
  marks : AtRank l.hierarchy l.rank (λ v. IsPartlyMarked l.hierarchy l.ends l.side l.fn.self l.self v l.weight l.fn.marks l.marks
      (take l.leg-index (row (rows_of (weighed l.hierarchy) l.side) v)));
}
