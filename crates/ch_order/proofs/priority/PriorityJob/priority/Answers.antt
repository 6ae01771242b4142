-- The shortcuts are counted up to a number with which the key is above the greatest exact one.
use Rattle.std.proofs.Common.{◌≡◌, ◌∙◌, arith, to_z, of_z, w64}
use Rattle.std.specs.Prelude.{slice_index}
use Rattle.std.proofs.lemmas.Int.{to_z-of_z}
use Rattle.ch_order.proofs.KeyBounds.{measured_key}
use Rattle.ch_order.proofs.priority.PriorityJob.priority.Goals as goal

pub returns-clause-priority : goal.returns-clause-priority
returns-clause-priority c =
    let same : to_z w64 (of_z w64 c.key.result) ≡ c.key.result = grind (arith, to_z-of_z) in
    measured_key c.args.self.now.keys c.most_counted-most.result _ _ _ _ _ c.in_ok-measure.measure
    (λ x. slice_index c.args.self.now.depths.now x) _
    c.in_ok-measure.ensures.measure (same ∙ c.key.ensures) c.count_touching.ensures.count c.most_counted-most.ensures
