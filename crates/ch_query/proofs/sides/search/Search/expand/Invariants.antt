-- The legs before the current one were taken from the settled node.
use Rattle.std.proofs.Common.{take}
use Rattle.ch_hierarchy.specs.Rows.{row}
use Rattle.ch_hierarchy.specs.Side.{rows_of}
use Rattle.ch_query.specs.Underway.{IsPartlyExpanded}
use Rattle.ch_query.proofs.sides.search.Search.expand.Given as goal

abbrev pub invariant-loop-leg : goal.invariant-loop-leg
invariant-loop-leg l =
    IsPartlyExpanded l.hierarchy l.question l.fn.self l.self l.node l.cost (take l.leg-index
    (row (rows_of l.hierarchy l.question.side) l.node))
