-- The ends of one more arc are a pair.
use Rattle.std.proofs.Common.{refl, sym, subst, inl, inr}
use Rattle.ch_custom.specs.Pairs.{AreRowsFor}
use Rattle.ch_custom.specs.Triangles.{AreNeeded}
use Rattle.ch_custom.proofs.theory.Growing.{arc_next, arc_next_down}
use Rattle.ch_custom.proofs.theory.Triangles.{needed_next, needed_next_down}
use Rattle.ch_custom.proofs.topology.put_roads.Goals.{then-levels-arc+in_ok-merge, else-levels-arc+in_ok-merge-2}
use Rattle.ch_custom.proofs.topology.put_roads.Goals as goal

pub loop-place-preserved : goal.loop-place-preserved
loop-place-preserved c = let i = c.loop-place.invariant in elim c.if-levels-arc.branch [
  | then-levels-arc+in_ok-merge w ↦ (
    subst (AreRowsFor c.args.graph.now c.args._order.now c.args.levels.now _) (sym w.pairs-is)
        (arc_next _ _ _ c.arcs-arcs.result.now c.loop-place.place _ _ w.merge.new.self _ _ c.arcs-arcs.ensures.limits
        c.arcs-arcs.ensures.arcs c.loop-place-test.true i.0 (inr w.if-levels-arc.true)
        (inl (refl, refl)) w.in_ok-merge.ensures),
    subst (AreNeeded c.args.graph.now c.args._order.now) (sym w.pairs-is)
        (needed_next _ _ _ c.arcs-arcs.result.now _ c.loop-place.place _ _ w.merge.new.self _ _ c.arcs-arcs.ensures.limits
        c.arcs-arcs.ensures.arcs c.loop-place-test.true i.0 (inr w.if-levels-arc.true)
        (inl (refl, refl)) w.in_ok-merge.ensures i.1),
  )
  | else-levels-arc+in_ok-merge-2 w ↦ (
    subst (AreRowsFor c.args.graph.now c.args._order.now c.args.levels.now _) (sym w.pairs-is)
        (arc_next_down _ _ _ c.arcs-arcs.result.now c.loop-place.place _ _ w.merge-else-levels-arc.new.self c.arcs-arcs.ensures.limits
        c.arcs-arcs.ensures.arcs c.loop-place-test.true i.0 w.if-levels-arc.false w.in_ok-merge-2.ensures),
    subst (AreNeeded c.args.graph.now c.args._order.now) (sym w.pairs-is)
        (needed_next_down _ _ _ c.arcs-arcs.result.now _ c.loop-place.place _ _ w.merge-else-levels-arc.new.self
        c.arcs-arcs.ensures.limits
        c.arcs-arcs.ensures.arcs c.loop-place-test.true i.0 w.if-levels-arc.false w.in_ok-merge-2.ensures i.1),
  )
]
