-- A leg from a higher node that was reached at a lesser sum shows that the node may stay unexpanded.
use Rattle.std.proofs.Common.{subst, sym}
use Rattle.ch_graph.specs.Cost.{IsBelow}
use Rattle.ch_query.proofs.one_side.Stalling.{stall_rank, stall_sum, stall_idle}
use Rattle.ch_query.proofs.sides.search.Search.is_stalled.Goals as goal

pub get-requires : goal.get-requires
get-requires c =
    let row = c.ranked_legs-leg-items.ensures.row _ c.requires.expanding.within (sym c.requires.rank) in
    stall_rank _ _ _ _ _ c.requires.expanding _ _ _ _ c.other.ensures row c.loop-leg-test.true

pub plus-requires : goal.plus-requires
plus-requires c =
    let row = c.ranked_legs-leg-items.ensures.row _ c.requires.expanding.within (sym c.requires.rank) in
    let sum = stall_sum _ _ _ _ _ c.requires.expanding _ _ _ _ c.other.ensures row c.loop-leg-test.true _ _ (sym c.in-Some.ensures)
    c.cost.ensures in
    record { weights = sum.0; arcs = sum.1 }

pub returns-then-is_below : goal.returns-then-is_below
returns-then-is_below c =
    let row = c.ranked_legs-leg-items.ensures.row _ c.requires.expanding.within (sym c.requires.rank) in
    λ _. stall_idle _ _ _ _ _ c.requires.expanding _ _ _ _ c.other.ensures row c.loop-leg-test.true c.in-Some.known _
    c.requires.stalls (sym c.in-Some.ensures) c.cost.ensures
    (subst (λ q. IsBelow q c.args.cost) c.plus.ensures (c.is_below.ensures.0 c.if-is_below.true))
