-- The legs before the current one were taken from the ancestor.
use Rattle.std.proofs.Common.{take}
use Rattle.ch_hierarchy.specs.Rows.{row}
use Rattle.ch_hierarchy.specs.Side.{rows_of}
use Rattle.ch_query.specs.Climbs.{IsTakingLegs}
use Rattle.ch_query.proofs.sides.search.Search.take_legs.Given as goal

abbrev pub invariant-loop-leg : goal.invariant-loop-leg
invariant-loop-leg l = IsTakingLegs l.hierarchy l.fn.question l.ancestors l.place l.node l.cost
    (take l.leg-index (row (rows_of l.hierarchy l.fn.question.side) l.node)) l.self
