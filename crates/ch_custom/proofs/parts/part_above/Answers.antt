-- One more node is in the rest or in the part, and in the end all are.
use Rattle.ch_custom.proofs.theory.Parts.{part_next, part_of_all}
use Rattle.ch_custom.proofs.theory.Unions.{has_number}
use Rattle.ch_custom.proofs.parts.part_above.Goals as goal

pub bounds-parts-row : goal.bounds-parts-row
bounds-parts-row c = c.requires.inside _ (has_number c.args.row.now c.loop-place.place c.loop-place-test.true)

pub loop-place-preserved : goal.loop-place-preserved
loop-place-preserved c =
    part_next c.args.parts.now c.args.row.now c.args.rest c.loop-place.part c.loop-place.place c.in_ok-part.part c.requires.within
    (c.requires.inside _ (has_number c.args.row.now c.loop-place.place c.loop-place-test.true)) c.loop-place.invariant
    c.in_ok-part.ensures

pub returns : goal.returns
returns c = part_of_all c.args.parts.now c.args.row.now c.args.rest c.loop-place.part c.loop-place.place c.loop-place-test.false
    c.loop-place.invariant
