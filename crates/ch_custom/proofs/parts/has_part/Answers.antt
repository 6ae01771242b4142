-- The nodes of the row have parts, and in the end none is in this one.
use Rattle.ch_custom.proofs.theory.Unions.{has_number}
use Rattle.ch_custom.proofs.parts.has_part.Goals as goal

pub bounds-parts-row : goal.bounds-parts-row
bounds-parts-row c = c.requires _ (has_number c.args.row.now c.loop-place.place c.loop-place-test.true)
