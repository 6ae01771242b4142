-- Each empty list has the place without capacity in the end, and each other list has its own place.
use Rattle.std.proofs.Common.{◌∙◌, map, arith, sym}
use Rattle.std.proofs.lemmas.List.{length-map, get_or-map, same_lists}
use Rattle.ch_lists.specs.Packing.{closed}
use Rattle.ch_lists.proofs.packing.close_empty.Goals as goal

pub returns : goal.returns
returns c =
    let long = length-map c.args.places.now closed in
    same_lists c.loop-place.places (map closed c.args.places.now) (omega (arith, c.loop-place.auto.places)) (λ k d low.
    c.loop-place.invariant.before k d (omega (arith, c.loop-place.auto.places))
    ∙ sym (get_or-map closed c.args.places.now k d d (omega (arith, c.loop-place.auto.places))))
