-- The list has the nodes before the current one with their costs, and there is capacity for the others.
use Rattle.std.proofs.Common.{◌≡◌, ◌≤◌, map, take, length}
use Rattle.std.specs.Prelude.{vec_capacity}
use Rattle.ch_query.specs.ByNode.{costs_of}
use Rattle.ch_query.specs.Spread.{entry}
use Rattle.ch_query.proofs.sides.search.Search.listed.Given as goal

abbrev pub invariant-loop-node : goal.invariant-loop-node
invariant-loop-node l = (l.list.items ≡ map (entry (costs_of l.hierarchy l.self)) (take l.node-index l.node-items))
    × (length l.node-items ≤ vec_capacity l.list)
