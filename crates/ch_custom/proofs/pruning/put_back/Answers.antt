-- One more arc is put back, and in the end all are.
use Rattle.std.proofs.Common.{length, ap, subst, arith}
use Rattle.std.proofs.lemmas.List.{take_all}
use Rattle.ch_custom.specs.Pruning.{AreLeft}
use Rattle.ch_custom.proofs.theory.Left.{put_next}
use Rattle.ch_custom.proofs.pruning.put_back.Goals as goal

pub loop-place-preserved : goal.loop-place-preserved
loop-place-preserved c =
    put_next c.args.graph.now c.args._order.now c.args.levels.now c.args._rows.now c.arcs-arcs.ensures.limits c.requires.ready
    c.requires.levels c.arcs-arcs.result.now c.loop-place.place _ _ _ c.arcs-arcs.ensures.arcs c.loop-place-test.true
    c.loop-place.invariant c.put_arc.ensures.pairs

pub returns : goal.returns
returns c =
    let same = ap length c.arcs-arcs.ensures.arcs in
    let past = c.loop-place-test.false in
    subst (λ z. AreLeft c.args.graph.now c.args._order.now c.args._rows.now z c.loop-place.metric)
    (take_all c.loop-place.place c.args.graph.now.arcs (omega arith)) c.loop-place.invariant
