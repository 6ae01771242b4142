-- One more place is passed.
use Rattle.std.proofs.Common.{◌-◌, get_or, ◌∙◌, ap, inl, inr, arith}
use Rattle.std.proofs.lemmas.List.{get_or_default}
use Rattle.ch_tree.specs.declared.sweep.TheConstants.{NEVER}
use Rattle.ch_tree.specs.Spaces.{IsBeatenAt}
use Rattle.ch_tree.proofs.theory.Climbs.{above_low}
use Rattle.ch_tree.proofs.theory.Spaces.{gather_begins, gather_step}
use Rattle.ch_tree.proofs.spaces.gather.Goals.{then-weight-most+then-not-is_beaten+in_ok-push, else-weight-most}
use Rattle.ch_tree.proofs.spaces.gather.Goals.{else-weight-most-via-then-weight-most+else-not-is_beaten}
use Rattle.ch_tree.proofs.spaces.gather.Goals.{else-weight-most-via-else-weight-most}
use Rattle.ch_tree.proofs.spaces.gather.Goals as goal

pub loop-place-init : goal.loop-place-init
loop-place-init c = gather_begins (IsBeatenAt c.args.hierarchy.now c.args.side c.args.costs.now) c.args.parents.now c.requires.falls
    c.args.first c.args.most c.args.costs.now c.args.found.now.items c.requires.empty c.requires.first

pub bounds-costs-rank : goal.bounds-costs-rank
bounds-costs-rank c =
    let low = above_low c.args.parents.now c.requires.falls c.args.first c.loop-place.place c.loop-place.invariant.here in
    let first = c.requires.first in
    let some = c.loop-place-test.true in
    omega arith

pub is_beaten-requires-clause-rank : goal.is_beaten-requires-clause-rank
is_beaten-requires-clause-rank c =
    let low = above_low c.args.parents.now c.requires.falls c.args.first c.loop-place.place c.loop-place.invariant.here in
    let first = c.requires.first in
    let some = c.loop-place-test.true in
    let size = c.requires.sizes.1 in
    omega arith

pub bounds-parents-place : goal.bounds-parents-place
bounds-parents-place c =
    let low = above_low c.args.parents.now c.requires.falls c.args.first c.loop-place.place c.loop-place.invariant.here in
    let first = c.requires.first in
    let size = c.requires.sizes.0 in
    omega arith

pub loop-place-preserved : goal.loop-place-preserved
loop-place-preserved c =
    let low = above_low c.args.parents.now c.requires.falls c.args.first c.loop-place.place c.loop-place.invariant.here in
    let first = c.requires.first in
    let some = c.loop-place-test.true in
    let place = c.loop-place.place in
    let costs = c.args.costs.now in
    gather_step (IsBeatenAt c.args.hierarchy.now c.args.side costs) c.args.parents.now c.requires.falls c.args.first c.args.most costs place
    (get_or costs (place - 1) 0) c.loop-place.found.items c.if-weight-most.found.items (omega arith) (omega arith)
    (get_or_default costs (place - 1) 0 NEVER (omega arith)) c.loop-place.invariant (elim c.if-weight-most.branch [
      | then-weight-most+then-not-is_beaten+in_ok-push w ↦
          inl (w.if-weight-most.true, ap (λ v. v.items) w.found-is ∙ w.in_ok-push.ensures.items)
      | else-weight-most w ↦ inr (
        elim w.else-weight-most.branch [
          | else-weight-most-via-then-weight-most+else-not-is_beaten x ↦ inr (x.is_beaten.ensures.beaten x.if-not-is_beaten.false)
          | else-weight-most-via-else-weight-most x ↦ inl (omega (arith, x.if-weight-most.false))
        ],
        ap (λ v. v.items) w.found-is,
      )
    ])
