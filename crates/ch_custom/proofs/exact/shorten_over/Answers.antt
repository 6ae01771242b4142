-- The row is shortened with one more of the others, if it has a pair of the same node.
use Rattle.std.proofs.Common.{get_or, sym, ◌∙◌, ap, subst, arith}
use Rattle.ch_custom.specs.declared.leg_pair.LegPair.{LegPair}
use Rattle.ch_custom.specs.Exact.{AreBothLowered}
use Rattle.ch_custom.proofs.theory.ExactRows.{over_none, less_more, none_met, one_met}
use Rattle.ch_custom.proofs.theory.LoweredPairs.{pairs_greater}
use Rattle.ch_custom.proofs.exact.shorten_over.Goals.{then-far-row+then-row-far, else-far-row}
use Rattle.ch_custom.proofs.exact.shorten_over.Goals.{else-far-row-via-then-far-row+else-row-far, else-far-row-via-else-far-row}
use Rattle.ch_custom.proofs.exact.shorten_over.Goals as goal

-- the default of an index
abbrev blank : LegPair
blank = record { node = 0; up = record { weight = 0; arcs = 0; middle = 0 }; down = record { weight = 0; arcs = 0; middle = 0 } }

pub loop-next-init : goal.loop-next-init
loop-next-init c = record {
  over = over_none c.args.graph.now c.args._node c.args.place c.args.others.now c.args.row.now c.requires.row c.requires.place
      c.requires.others;
  within = omega arith;
  less = λ k j d e past below first. absurd (omega arith);
}

pub shorten_both-requires-clause-near : goal.shorten_both-requires-clause-near
shorten_both-requires-clause-near c = let size = c.loop-next.invariant.over.short.size in let lt = c.requires.place in omega arith

pub shorten_both-requires-clause-apart : goal.shorten_both-requires-clause-apart
shorten_both-requires-clause-apart c e =
    let i = c.loop-next.invariant.over.short in
    let met = c.if-row-far.true in
    (c.requires.others blank).apart c.loop-next.next blank c.loop-next-test.true
    (sym met ∙ ap (λ z. (get_or c.loop-next.row z blank).node) (sym e) ∙ i.nodes c.args.place blank c.requires.place)

pub shorten_both-requires-clause-between : goal.shorten_both-requires-clause-between
shorten_both-requires-clause-between c = (c.requires.others blank).held c.loop-next.next blank c.loop-next-test.true

pub shorten_both-requires-clause-row : goal.shorten_both-requires-clause-row
shorten_both-requires-clause-row c = c.loop-next.invariant.over.short.held

pub loop-next-preserved : goal.loop-next-preserved
loop-next-preserved c =
    let i = c.loop-next.invariant in
    let found = c.first_from-far.ensures in
    let g = c.args.graph.now in
    let limits = c.nodes-nodes.ensures.limits in
    let inside = c.loop-next-test.true in
    let size = i.over.short.size in
    elim c.if-far-row.branch [
      | then-far-row+then-row-far w ↦ record {
        over = one_met g c.args._node c.args.place c.args.others.now c.args.row.now c.requires.row c.requires.place c.requires.others
            limits c.requires.node c.loop-next.next c.loop-next.far c.first_from-far.result blank c.loop-next.row c.if-far-row.row
            i.over i.less inside found.later found.within found.before w.if-far-row.true w.if-row-far.true
            (subst (AreBothLowered g.nodes (get_or c.args.others.now c.loop-next.next blank) c.args.place c.first_from-far.result
            c.loop-next.row) (sym w.row-is)
            (subst (λ n. AreBothLowered n (get_or c.args.others.now c.loop-next.next blank) c.args.place c.first_from-far.result
            c.loop-next.row w.shorten_both.new.row) c.nodes-nodes.ensures.nodes w.shorten_both.ensures));
        within = omega (arith, found.within);
        less = less_more g c.args._node c.args.place c.args.others.now c.args.row.now c.requires.row c.requires.place c.requires.others
            limits c.requires.node c.loop-next.next c.loop-next.far c.first_from-far.result blank c.loop-next.row c.if-far-row.row
            i.over i.less inside found.later found.within found.before;
      }
      | else-far-row w ↦ record {
        over = none_met g c.args._node c.args.place c.args.others.now c.args.row.now c.requires.row c.requires.place c.requires.others
            limits c.requires.node c.loop-next.next c.loop-next.far c.first_from-far.result blank c.loop-next.row c.if-far-row.row
            i.over i.less inside found.later found.within found.before
            (λ d lt. elim w.else-far-row.branch [
              | else-far-row-via-then-far-row+else-row-far x ↦ pairs_greater c.loop-next.row c.first_from-far.result
                  (get_or c.args.others.now c.loop-next.next blank).node d blank lt (found.after d lt) x.if-row-far.false
              | else-far-row-via-else-far-row x ↦ absurd (omega (arith, x.if-far-row.false, lt))
            ]) w.row-is;
        within = omega (arith, found.within);
        less = less_more g c.args._node c.args.place c.args.others.now c.args.row.now c.requires.row c.requires.place c.requires.others
            limits c.requires.node c.loop-next.next c.loop-next.far c.first_from-far.result blank c.loop-next.row c.if-far-row.row
            i.over i.less inside found.later found.within found.before;
      }
    ]
