-- One more of the others lowers the pair of its node, and when none is left the rest has nothing to be lowered with.
use Rattle.std.proofs.Common.{◌<◌, length, get_or, sym, subst, arith}
use Rattle.ch_hierarchy.specs.declared.side.Side.{Side}
use Rattle.ch_hierarchy.specs.declared.side.Side.TheVariants.{Up}
use Rattle.ch_hierarchy.specs.Side.{other}
use Rattle.ch_custom.specs.declared.leg_pair.LegPair.{LegPair}
use Rattle.ch_custom.specs.LegPairs.{leg_of, row_of}
use Rattle.ch_custom.specs.Metric.{AreLoweredTo}
use Rattle.ch_custom.proofs.theory.Metric.{lowered_none}
use Rattle.ch_custom.proofs.theory.LoweredPairs.{held_here, same_size, pairs_to, pairs_now, pairs_rest, here_less, next_less, less_more}
use Rattle.ch_custom.proofs.theory.LoweredPairs.{pairs_greater}
use Rattle.ch_custom.proofs.lowering.lower_row.Goals.{then-place-row+then-row-place, else-place-row}
use Rattle.ch_custom.proofs.lowering.lower_row.Goals.{else-place-row-via-then-place-row+else-row-place, else-place-row-via-else-place-row}
use Rattle.ch_custom.proofs.lowering.lower_row.Goals as goal

-- the default of an index
abbrev blank : LegPair
blank = record { node = 0; up = record { weight = 0; arcs = 0; middle = 0 }; down = record { weight = 0; arcs = 0; middle = 0 } }

pub loop-next-init : goal.loop-next-init
loop-next-init c = (
  (λ side. lowered_none _ _ _ _ _ (c.requires.row side).1),
  omega arith,
  λ k j d e lt le inside. absurd (omega (arith, lt)),
)

pub lower_pair-requires-clause-other : goal.lower_pair-requires-clause-other
lower_pair-requires-clause-other c =
    held_here c.args.others.now c.loop-next.next blank (λ side. (c.requires.others side).1) c.loop-next-test.true

pub lower_pair-requires-clause-pair : goal.lower_pair-requires-clause-pair
lower_pair-requires-clause-pair c =
    held_here c.loop-next.row c.first_from-place.result blank (λ side. (c.loop-next.invariant.0 side).held) c.if-place-row.true

pub loop-next-preserved : goal.loop-next-preserved
loop-next-preserved c =
    let i = c.loop-next.invariant in
    let found = c.first_from-place.ensures in
    let inside : c.loop-next.next < length c.args.others.now = c.loop-next-test.true in
    let size = same_size Up c.args.nodes c.args.middle c.args.one.now c.args.others.now c.args.row.now c.loop-next.place c.loop-next.row
    (i.0 Up) in
    let to : (side : Side) → AreLoweredTo c.args.nodes c.args.middle (leg_of (other side) c.args.one.now) (row_of side c.args.others.now)
    (row_of side c.args.row.now) c.first_from-place.result (row_of side c.loop-next.row) =
    λ side. pairs_to side c.args.nodes c.args.middle c.args.one.now c.args.others.now c.args.row.now c.loop-next.place c.loop-next.row
    (i.0 side) c.loop-next.next blank c.first_from-place.result (c.requires.others side).0 inside found.later i.2 found.before in
    elim c.if-place-row.branch [
      | then-place-row+then-row-place w ↦ (
        (λ side. subst (λ z. AreLoweredTo c.args.nodes c.args.middle (leg_of (other side) c.args.one.now) (row_of side c.args.others.now)
            (row_of side c.args.row.now) z (row_of side c.if-place-row.row)) (sym w.place-is)
            (pairs_now side c.args.nodes c.args.middle c.args.one.now c.args.others.now c.args.row.now c.first_from-place.result
            c.loop-next.row (to side) (omega (arith, w.if-place-row.true)) c.loop-next.next w.lower_pair.new.pair blank blank
            c.if-place-row.row (c.requires.others side).0 inside (sym w.if-row-place.true) w.lower_pair.ensures.node
            (w.lower_pair.ensures.legs side) (w.lower_pair.ensures.held side) w.row-is)),
        omega (arith, w.if-place-row.true, w.place-is),
        less_more c.args.others.now c.args.row.now c.loop-next.place c.loop-next.next c.if-place-row.place blank inside
            (omega (arith, w.place-is, found.later)) i.2
            (λ j e past below. here_less Up c.args.nodes c.args.middle c.args.one.now c.args.others.now c.args.row.now
            c.first_from-place.result c.loop-next.row (to Up) (get_or c.args.others.now c.loop-next.next blank).node blank
            (c.requires.row Up).0 (omega (arith, w.if-place-row.true)) w.if-row-place.true j e (omega (arith, w.place-is)) below),
      )
      | else-place-row w ↦ (
        (λ side. subst (λ z. AreLoweredTo c.args.nodes c.args.middle (leg_of (other side) c.args.one.now) (row_of side c.args.others.now)
            (row_of side c.args.row.now) z (row_of side c.if-place-row.row)) (sym w.place-is)
            (subst (λ z. AreLoweredTo c.args.nodes c.args.middle (leg_of (other side) c.args.one.now) (row_of side c.args.others.now)
            (row_of side c.args.row.now) c.first_from-place.result (row_of side z)) (sym w.row-is) (to side))),
        omega (arith, w.place-is, found.within),
        less_more c.args.others.now c.args.row.now c.loop-next.place c.loop-next.next c.if-place-row.place blank inside
            (omega (arith, w.place-is, found.later)) i.2
            (λ j e past below. next_less Up c.args.nodes c.args.middle c.args.one.now c.args.others.now c.args.row.now
            c.first_from-place.result c.loop-next.row (to Up) (get_or c.args.others.now c.loop-next.next blank).node blank
            (c.requires.row Up).0 (λ lt. elim w.else-place-row.branch [
              | else-place-row-via-then-place-row+else-row-place x ↦ pairs_greater c.loop-next.row c.first_from-place.result
                  (get_or c.args.others.now c.loop-next.next blank).node blank blank (omega (arith, x.if-place-row.true))
                  (found.after blank x.if-place-row.true) x.if-row-place.false
              | else-place-row-via-else-place-row x ↦ absurd (omega (arith, x.if-place-row.false, lt))
            ]) j e (omega (arith, w.place-is)) below),
      )
    ]

pub returns-clause-lowered : goal.returns-clause-lowered
returns-clause-lowered c side =
    let i = c.loop-next.invariant in
    pairs_rest side c.args.nodes c.args.middle c.args.one.now c.args.others.now c.args.row.now c.loop-next.place c.loop-next.row
    (i.0 side)
    (λ k d e j lt past below. i.2 k j d e (omega (arith, c.loop-next-test.false)) past below)
