-- A node of the row has a level.
use Rattle.ch_custom.proofs.theory.Unions.{has_number}
use Rattle.ch_tree.proofs.parents.highest.Goals as goal

pub bounds-levels-row : goal.bounds-levels-row
bounds-levels-row c = (c.requires.levels _ (has_number c.args.row.now c.loop-place.place c.loop-place-test.true)).0
