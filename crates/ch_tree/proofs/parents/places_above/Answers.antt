-- One more place has its parent.
use Rattle.std.proofs.Common.{ℕ, ◌+◌, ◌-◌, List, length, Contains, refl, sym, subst, arith}
use Rattle.std.specs.Prelude.{slice_index}
use Rattle.ch_tree.specs.Parents.{IsHighest, AreParentsTo}
use Rattle.ch_tree.proofs.theory.Parents.{within, parents_more}
use Rattle.ch_tree.proofs.parents.places_above.Goals as goal

pub highest-requires-clause-levels : goal.highest-requires-clause-levels
highest-requires-clause-levels c y has =
    let r = c.requires in
    let i = length c.args.order.now - 1 - c.loop-place.place in
    let count = r.sound.nodes.count in
    let lt = c.loop-place-test.true in
    within c.args.order.now c.args.levels.now c.args.rows.now r.sound r.levels r.closed (slice_index c.args.order.now i)
    (r.sound.nodes.within i (omega arith)) y
    (subst (λ z. Contains z y) c.row.ensures has) i (omega arith) refl

pub loop-place-preserved : goal.loop-place-preserved
loop-place-preserved c =
    let r = c.requires in
    subst (AreParentsTo (length c.args.rows.now) c.args.order.now c.args.rows.now (c.loop-place.place + 1)) (sym c.in_ok-push.ensures.items)
    (parents_more c.args.order.now c.args.levels.now c.args.rows.now r.sound r.levels r.closed c.loop-place.place
    c.loop-place.parents.items c.highest.result c.loop-place-test.true
    c.loop-place.invariant
    (subst (λ (z : List ℕ). IsHighest c.args.levels.now z (length z) c.highest.result) c.row.ensures c.highest.ensures))
