-- The frame serves the graph with new weights, so the hierarchy over it is customized and right for them.
use Rattle.std.proofs.Common.{Some, subst, sym}
use Rattle.ch_graph.specs.Graph.{IsWithinLimits}
use Rattle.ch_run.specs.Loaded.{GraphAndHierarchy, IsWeighed}
use Rattle.ch_run.proofs.Frames.{frame_weighed}
use Rattle.ch_run.proofs.run.loading.Checked.weighed.Goals as goal

pub hierarchy-requires-clause-fits : goal.hierarchy-requires-clause-fits
hierarchy-requires-clause-fits g c = λ kept within.
    rw c.in-Ok.ensures.graph
    (frame_weighed c.self.inside.graph c.listed.result.now c.in-Some.frame (rw c.in-Some.is at c.self.invariant.frame))

pub invariant_of-result : goal.invariant_of-result
invariant_of-result g c = record {
  limits = subst IsWithinLimits c.graph-2.view_is c.graph-2.invariant;
  kept = c.in_ok-hierarchy.ensures.kept;
  frame = rw c.in-Ok.ensures.graph
      (frame_weighed c.self.inside.graph c.listed.result.now c.in-Some.frame (rw c.in-Some.is at c.self.invariant.frame));
}

pub returns-clause-weighed : goal.returns-clause-weighed
returns-clause-weighed g c =
    subst (λ (old : GraphAndHierarchy). IsWeighed old c.args.weights.now record {
      graph = c.in-Ok.graph;
      hierarchy = c.in_ok-hierarchy.hierarchy;
      frame = Some c.in-Some.frame;
    }) c.self.view_is record {
      arcs = rw c.listed.ensures at c.in-Ok.ensures.arcs;
      graph = rw c.listed.ensures at c.in-Ok.ensures.graph;
      customized = rw c.in-Some.is c.in_ok-hierarchy.ensures.customized;
      frame = sym c.in-Some.is;
    }
