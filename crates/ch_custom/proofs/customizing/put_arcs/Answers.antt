-- One more arc is put in, and in the end all are.
use Rattle.std.proofs.Common.{arith, ap, length, ◌∙◌}
use Rattle.ch_hierarchy.specs.declared.side.Side.TheVariants.{Up, Down}
use Rattle.ch_custom.specs.LegPairs.{rows_at}
use Rattle.ch_custom.proofs.theory.LegPairs.{opened_rows}
use Rattle.ch_custom.proofs.theory.Opened.{put_start, put_next, put_last, all_put}
use Rattle.ch_custom.proofs.customizing.put_arcs.Goals as goal

pub loop-place-init : goal.loop-place-init
loop-place-init c = put_start _ _ c.args.levels.now _ c.arcs-arcs.ensures.limits c.requires.ready c.requires.levels _ _
    (ap (rows_at Up) c.requires.metric ∙ opened_rows Up c.args.rows.now) (ap (rows_at Down) c.requires.metric
    ∙ opened_rows Down c.args.rows.now)

pub loop-place-preserved : goal.loop-place-preserved
loop-place-preserved c =
    put_next _ _ c.args.levels.now _ c.arcs-arcs.ensures.limits c.requires.ready c.requires.levels c.arcs-arcs.result.now
    c.loop-place.place _ _ _ _ _ c.arcs-arcs.ensures.arcs c.loop-place-test.true c.loop-place.invariant c.put_arc.ensures.legs

pub returns : goal.returns
returns c =
    let same = ap length c.arcs-arcs.ensures.arcs in
    let past = c.loop-place-test.false in
    all_put _ _ c.args.levels.now _ c.arcs-arcs.ensures.limits c.requires.ready c.requires.levels _ _
    (put_last _ _ c.args.levels.now _ c.arcs-arcs.ensures.limits c.requires.ready c.requires.levels c.loop-place.place _ _
    (omega arith) c.loop-place.invariant)
