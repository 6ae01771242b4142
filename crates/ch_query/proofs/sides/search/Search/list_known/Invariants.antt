-- The nodes of the ranks before the current one are listed.
use Rattle.std.proofs.Common.{take}
use Rattle.ch_query.specs.SearchTree.{AreKnownNodes}
use Rattle.ch_query.proofs.sides.search.Search.list_known.Given as goal

abbrev pub invariant-loop-i : goal.invariant-loop-i
invariant-loop-i l = AreKnownNodes l.hierarchy l.self (take l.i l.ranks) l.tree.items
