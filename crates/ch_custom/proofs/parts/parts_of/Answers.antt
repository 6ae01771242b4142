-- One more node has its part.
use Rattle.std.proofs.Common.{◌≡◌, ◌+◌, ◌-◌, [], Contains, ap, length, refl, ◌∙◌, subst, arith}
use Rattle.std.specs.Prelude.{slice_index, slice_index_or, slice_set}
use Rattle.ch_custom.specs.Parts.{ArePartsFrom, MayBeIn}
use Rattle.ch_custom.proofs.theory.Parts.{row_inside, parts_more, same_count}
use Rattle.ch_custom.proofs.parts.parts_of.Goals as goal

pub part_for-requires-clause-inside : goal.part_for-requires-clause-inside
part_for-requires-clause-inside c y has =
    let within = c.loop-step-test.true in
    let below = row_inside c.args.order.now c.args.rows.now c.requires.sound (length c.args.order.now - 1 - c.loop-step.step) y
    (omega arith) (subst (λ z. Contains z y) c.row-row.ensures has) in
    let size = c.loop-step.invariant.0.size in
    let same = ap length c.as_slice.ensures.value in
    omega arith

pub loop-step-preserved : goal.loop-step-preserved
loop-step-preserved c =
    let within = c.loop-step-test.true in
    let place = length c.args.order.now - 1 - c.loop-step.step in
    let row = slice_index_or c.args.rows.now (slice_index c.args.order.now place) [] in
    let new = slice_set c.loop-step.parts.items (slice_index c.args.order.now place) c.in-Some.part in
    let before : length c.args.order.now - c.loop-step.step ≡ place + 1 = omega arith in
    let after : place ≡ length c.args.order.now - (c.loop-step.step + 1) = omega arith in (
      subst (λ z. ArePartsFrom c.args.order.now c.args.rows.now c.args.rest z new) after
          (parts_more c.args.order.now c.args.rows.now c.args.rest place c.in-Some.part c.loop-step.parts.items new c.requires.sound
          (omega arith)
          (subst (λ z. ArePartsFrom c.args.order.now c.args.rows.now c.args.rest z c.loop-step.parts.items) before c.loop-step.invariant.0)
          (subst (λ z. MayBeIn z c.args.rest row c.in-Some.part) c.as_slice.ensures.value
          (subst (λ z. MayBeIn c.as_slice.result.now c.args.rest z c.in-Some.part) c.row-row.ensures c.in-Some.ensures.found)) refl),
      same_count c.loop-step.loads.len c.part_for.new.loads c.loop-step.loads.items c.loop-step.loads.ok.0
          (c.in-Some.ensures.loads ∙ ap length c.deref_mut.ensures.value) ∙ c.loop-step.invariant.1,
    )
