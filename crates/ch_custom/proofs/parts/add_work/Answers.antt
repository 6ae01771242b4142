-- The first node of the row has a number too.
use Rattle.std.proofs.Common.{length-set, arith}
use Rattle.ch_custom.proofs.parts.add_work.Goals as goal

pub first_of-parent-requires-clause-within : goal.first_of-parent-requires-clause-within
first_of-parent-requires-clause-within c y has = let below = c.requires.row y has in let size = c.requires.levels in omega arith

pub bounds-below-parent : goal.bounds-below-parent
bounds-below-parent c =
    let below = c.requires.row _ c.first_of-parent.ensures.within in
    let size = length-set c.args.below.now c.args.node c.saturating_add-sum.result in
    omega arith

pub bounds-below-parent-then-not-is_empty : goal.bounds-below-parent-then-not-is_empty
bounds-below-parent-then-not-is_empty c =
    let below = c.requires.row _ c.first_of-parent.ensures.within in
    let size = length-set c.args.below.now c.args.node c.saturating_add-sum.result in
    omega arith
