-- Each turn takes the legs of one more ancestor, and after the last one nothing is left to settle.
use Rattle.ch_query.proofs.one_side.Climbing.{climb_ends}
use Rattle.ch_query.proofs.sides.search.Search.climb.Goals as goal

pub loop-place-init : goal.loop-place-init
loop-place-init c = c.start.ensures c.args.side c.args.ancestors.now c.requires.ancestors

pub returns-clause-unqueued : goal.returns-clause-unqueued
returns-clause-unqueued c = c.loop-place.invariant.search

pub returns-clause-underway : goal.returns-clause-underway
returns-clause-underway c = climb_ends _ _ _ c.args.ancestors.now _ _ c.loop-place-test.false c.loop-place.invariant
