-- The node is the first of all.
use Rattle.std.proofs.Common.{◌≤◌, subst, arith}
use Rattle.std.specs.Prelude.{slice_index}
use Rattle.ch_custom.proofs.theory.Unions.{has_number, place_of}
use Rattle.ch_custom.proofs.topology.first_of.Goals as goal

pub bounds-levels-node : goal.bounds-levels-node
bounds-levels-node c = c.requires.within _ (has_number c.args.row.now c.loop-place.place c.loop-place-test.true)

pub bounds-levels-first : goal.bounds-levels-first
bounds-levels-first c = c.requires.within _ c.loop-place.invariant.0

pub returns-clause-least : goal.returns-clause-least
returns-clause-least c y has =
    let p = place_of c.args.row.now y has in
    let past = c.loop-place-test.false in
    let lt = p.1 in
    subst (λ z. slice_index c.args.levels.now c.loop-place.first ≤ slice_index c.args.levels.now z) p.2
    (c.loop-place.invariant.1 p.0 (omega arith) p.1)
