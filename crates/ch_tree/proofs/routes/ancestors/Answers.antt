-- One more place is passed.
use Rattle.std.proofs.Common.{arith, sym, subst}
use Rattle.ch_tree.specs.Ancestors.{AreRanksTo}
use Rattle.ch_tree.proofs.theory.Ancestors.{ranks_begin, ranks_step}
use Rattle.ch_tree.proofs.theory.Climbs.{above_low}
use Rattle.ch_tree.proofs.routes.ancestors.Goals as goal

pub loop-place-init : goal.loop-place-init
loop-place-init c = subst (AreRanksTo c.args.parents.now c.args.first c.args.first) (sym c.new-ranks.ensures.items)
    (ranks_begin c.args.parents.now c.requires.falls c.args.first)

pub bounds-parents-place : goal.bounds-parents-place
bounds-parents-place c =
    let low = above_low c.args.parents.now c.requires.falls c.args.first c.loop-place.place c.loop-place.invariant.here in
    let first = c.requires.first in
    omega arith

pub loop-place-preserved : goal.loop-place-preserved
loop-place-preserved c = ranks_step c.args.parents.now c.requires.falls c.args.first c.loop-place.place c.loop-place.ranks.items
    c.loop-place.invariant c.loop-place-test.true _ c.in_ok-push.ensures.items

pub loop-place-smaller : goal.loop-place-smaller
loop-place-smaller c =
    let fall = c.requires.falls c.loop-place.place in
    let some = c.loop-place-test.true in
    omega arith
