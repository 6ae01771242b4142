-- One more leg is pushed, or a place without a leg is passed over.
use Rattle.std.proofs.Common.{◌≡◌, ◌<◌, [], length, get_or, set, sym, ◌∙◌, ap, subst}
use Rattle.std.specs.List.{insert}
use Rattle.ch_custom.specs.declared.leg_pair.LegPair.{LegPair}
use Rattle.ch_custom.specs.LegPairs.{leg_of, row_of}
use Rattle.ch_custom.specs.Opening.{is_live}
use Rattle.ch_custom.proofs.theory.LegPairs.{leg_here, row_size}
use Rattle.ch_custom.proofs.theory.RowLoops.{pushed_live, passed_live}
use Rattle.ch_custom.proofs.metric.push_live.Goals.{then-is_live+in_ok-insert, else-is_live}
use Rattle.ch_custom.proofs.metric.push_live.Goals as goal

-- the default of an index
abbrev blank : LegPair
blank = record { node = 0; up = record { weight = 0; arcs = 0; middle = 0 }; down = record { weight = 0; arcs = 0; middle = 0 } }

pub loop-place-preserved : goal.loop-place-preserved
loop-place-preserved c =
    let row = row_of c.args.side c.args.row.now in
    let d = leg_of c.args.side blank in
    let here : c.leg-leg.result ≡ get_or row c.loop-place.place d = c.leg-leg.ensures
    ∙ sym (leg_here c.args.side c.args.row.now c.loop-place.place blank d c.loop-place-test.true) in
    let inside : c.loop-place.place < length row =
    subst (λ z. c.loop-place.place < z) (sym (row_size c.args.side c.args.row.now)) c.loop-place-test.true in
    elim c.if-is_live.branch [
      | then-is_live+in_ok-insert w ↦
          let list = get_or c.loop-place.lists c.args.node [] in
          pushed_live c.args.lists.now c.loop-place.lists c.if-is_live.lists c.args.node c.loop-place.place row d c.loop-place.invariant
          c.requires.node inside w.at-end.result.now w.at-end.ensures
          (ap is_live (sym here) ∙ sym c.is_live.ensures ∙ w.if-is_live.true)
          (w.lists-is ∙ w.in_ok-insert.ensures.ok
          ∙ ap (λ z. set c.loop-place.lists c.args.node (insert list (length w.at-end.result.now) z)) here)
      | else-is_live w ↦
          passed_live c.args.lists.now c.loop-place.lists c.if-is_live.lists c.args.node c.loop-place.place row d c.loop-place.invariant
          c.requires.node inside
          (ap is_live (sym here) ∙ sym c.is_live.ensures ∙ w.if-is_live.false) w.lists-is
    ]
