-- All shortcuts are counted, because they are fewer than the greatest number, and their number makes the priority.
use Rattle.std.proofs.Common.{◌≡◌, length, ◌∙◌, ap, arith, to_z, of_z, w64}
use Rattle.std.specs.Prelude.{pos, ◌-ℤ◌}
use Rattle.std.proofs.lemmas.Int.{to_z-of_z}
use Rattle.ch_contract.proofs.code.Counted.{whole_measure}
use Rattle.ch_contract.proofs.remaining.Remaining.priority.Goals as goal

pub returns : goal.returns
returns c =
    let measure = c.in_ok-measure.measure in
    let all = whole_measure _ _ _ _ _ measure (omega (arith, measure.small)) c.in_ok-measure.ensures.measure in
    let same : to_z w64 (of_z w64 c.key.result) ≡ c.key.result = grind (arith, to_z-of_z) in (
      all.0,
      all.1,
      same ∙ c.key.ensures ∙ ap (λ s. pos s -ℤ pos measure.legs) all.2 ∙ ap (λ l. pos (length all.0) -ℤ pos l) all.3,
    )
