-- The nodes of a row have numbers.
use Rattle.std.proofs.Common.{Contains, ap, length, subst, arith}
use Rattle.ch_custom.proofs.theory.Parts.{row_inside}
use Rattle.ch_custom.proofs.parts.works_of.Goals as goal

pub add_work-work-requires-clause-row : goal.add_work-work-requires-clause-row
add_work-work-requires-clause-row c y has =
    let below = row_inside c.args.order.now c.args.rows.now c.requires.sound c.loop-place.place y c.loop-place-test.true
    (subst (λ z. Contains z y) c.row.ensures has) in
    let size = c.loop-place.invariant in
    let same = ap length c.deref_mut.ensures.value in
    omega arith
