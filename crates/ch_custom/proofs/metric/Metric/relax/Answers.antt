-- The row of one more node is lowered.
use Rattle.ch_custom.specs.declared.leg_pair.LegPair.{LegPair}
use Rattle.std.proofs.Common.{get_or, All, sym, subst, arith}
use Rattle.std.proofs.lemmas.List.Elements.{Contains-get_or}
use Rattle.ch_hierarchy.specs.declared.side.Side.TheVariants.{Up}
use Rattle.ch_hierarchy.specs.Rows.{IsRow}
use Rattle.ch_custom.specs.Metric.{IsHeld}
use Rattle.ch_custom.proofs.theory.LoweredPairs.{held_here, many_rows, still_pairs, more_pairs}
use Rattle.ch_custom.proofs.theory.RelaxedRows.{relaxed_none}
use Rattle.ch_custom.proofs.metric.Metric.relax.Goals as goal

-- the default of an index
abbrev blank : LegPair
blank = record { node = 0; up = record { weight = 0; arcs = 0; middle = 0 }; down = record { weight = 0; arcs = 0; middle = 0 } }

pub loop-place-init : goal.loop-place-init
loop-place-init c side = relaxed_none _ _ _ _ _

pub lower-requires-clause-node : goal.lower-requires-clause-node
lower-requires-clause-node c =
    let many = many_rows Up c.args.nodes c.args.middle c.args.taken.now c.loop-place.place c.args.self.now c.loop-place.self
    (c.loop-place.invariant Up) (c.requires.taken Up).0 c.loop-place-test.true blank in
    let low = c.requires.inside (get_or c.args.taken.now c.loop-place.place blank)
    (Contains-get_or c.args.taken.now c.loop-place.place blank c.loop-place-test.true) in
    omega arith

pub lower-requires-clause-one : goal.lower-requires-clause-one
lower-requires-clause-one c = held_here c.args.taken.now c.loop-place.place blank (λ side. (c.requires.taken side).1) c.loop-place-test.true

pub lower-requires-clause-row : goal.lower-requires-clause-row
lower-requires-clause-row c side =
    let inside = Contains-get_or c.args.taken.now c.loop-place.place blank c.loop-place-test.true in
    subst (λ z. IsRow z × All IsHeld z)
    (sym (still_pairs side c.args.nodes c.args.middle c.args.taken.now c.loop-place.place c.args.self.now c.loop-place.self
    (c.loop-place.invariant side) (c.requires.taken side).0 c.loop-place-test.true blank (c.requires.inside _ inside)))
    (c.requires.rows _ inside side)

pub loop-place-preserved : goal.loop-place-preserved
loop-place-preserved c side =
    let inside = Contains-get_or c.args.taken.now c.loop-place.place blank c.loop-place-test.true in
    more_pairs side c.args.nodes c.args.middle c.args.taken.now c.loop-place.place c.args.self.now c.loop-place.self
    (c.loop-place.invariant side) (c.requires.taken side).0 c.loop-place-test.true blank c.lower.new.self (c.requires.inside _ inside)
    c.lower.ensures.edited (c.lower.ensures.lowered side) (c.lower.ensures.held side)
