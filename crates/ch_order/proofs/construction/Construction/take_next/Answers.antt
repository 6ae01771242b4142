-- The neighbours get other keys, and the queue keeps its nodes.
use Rattle.std.proofs.Common.{◌∙◌}
use Rattle.ch_order.proofs.QuickSteps.{none_again, rekeyed_step}
use Rattle.ch_order.proofs.construction.Construction.take_next.Goals as goal

pub returns : goal.returns
returns c =
    let t = c.in_ok-taken.ensures in
    let e = c.estimate_all.ensures in
    record {
      sizes = e.sizes;
      nodes = e.nodes ∙ t.nodes;
      step = rekeyed_step _ _ _ _ _ t.step e.rekeyed;
      size = e.rekeyed.size ∙ t.size;
      gone = none_again _ _ (e.rekeyed.same c.args.node) t.gone;
      same = λ x ne. e.rekeyed.same x ∙ t.same x ne;
      ready = e.ready c.args.hops.number t.ready;
    }
