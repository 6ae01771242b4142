-- One more leg lowers the cost of its node if it shows a cheaper way, without overflow, and past the last leg the node is done.
use Rattle.std.proofs.Common.{sym}
use Rattle.ch_query.proofs.one_side.Expanding.{partly_whole}
use Rattle.ch_query.proofs.one_side.RankedLegs.{read_rank, read_unkeyed, read_weights, read_arcs, ranked_step, read_all}
use Rattle.ch_query.proofs.sides.search.Search.expand.Goals as goal

pub relax-requires-clause-rank : goal.relax-requires-clause-rank
relax-requires-clause-rank c = read_rank _ c.loop-leg.invariant
    (c.ranked_legs-leg-items.ensures.row _ c.requires.expanding.within (sym c.requires.rank)) c.loop-leg-test.true

pub relax-requires-clause-unkeyed : goal.relax-requires-clause-unkeyed
relax-requires-clause-unkeyed c = read_unkeyed _ c.loop-leg.invariant
    (c.ranked_legs-leg-items.ensures.row _ c.requires.expanding.within (sym c.requires.rank)) c.loop-leg-test.true

pub relax-requires-clause-weights : goal.relax-requires-clause-weights
relax-requires-clause-weights c = read_weights _ c.loop-leg.invariant
    (c.ranked_legs-leg-items.ensures.row _ c.requires.expanding.within (sym c.requires.rank)) c.loop-leg-test.true

pub relax-requires-clause-arcs : goal.relax-requires-clause-arcs
relax-requires-clause-arcs c = read_arcs _ c.loop-leg.invariant
    (c.ranked_legs-leg-items.ensures.row _ c.requires.expanding.within (sym c.requires.rank)) c.loop-leg-test.true

pub loop-leg-preserved : goal.loop-leg-preserved
loop-leg-preserved c =
    let row = c.ranked_legs-leg-items.ensures.row _ c.requires.expanding.within (sym c.requires.rank) in
    ranked_step _ c.loop-leg.invariant row c.loop-leg-test.true _ c.relax.ensures.relaxes c.relax.ensures.touched

pub returns-clause-underway : goal.returns-clause-underway
returns-clause-underway c =
    let row = c.ranked_legs-leg-items.ensures.row _ c.requires.expanding.within (sym c.requires.rank) in
    partly_whole _ _ _ _ _ _ _ c.loop-leg.invariant (read_all c.args.hierarchy.now _ _ _ row c.loop-leg-test.false)
