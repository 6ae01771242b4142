-- The search ends with the tree of its source, and is clean again.
use Rattle.std.proofs.Common.{refl, arith}
use Rattle.ch_query.proofs.one_side.Spreads.{underway_room}
use Rattle.ch_query.proofs.sides.search.Search.grow.Goals as goal

pub find_tree-found-requires-clause-underway : goal.find_tree-found-requires-clause-underway
find_tree-found-requires-clause-underway c = c.begin.ensures.underway _ refl (omega arith)

pub clean-requires : goal.clean-requires
clean-requires c = record { room = underway_room _ _ _ c.find_tree-found.ensures.underway }
