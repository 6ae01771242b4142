-- The legs that were appended lead from the current node to the meet, and each turn goes to a node of lower level.
use Rattle.std.specs.Prelude.{◌≡◌, slice_index, vec_capacity}
use Rattle.ch_graph.specs.declared.cost.Cost.{Cost}
use Rattle.ch_query.specs.Descents.{HasReached}
use Rattle.ch_query.specs.Questions.{stalling}
use Rattle.ch_query.proofs.routing.DescentSteps.{IsPartlyTraced}
use Rattle.ch_query.proofs.routes.descent.descend.Given as goal

abbrev pub invariant-loop-node : goal.invariant-loop-node
invariant-loop-node l = record {
  traced : (c : Cost) × HasReached l.hierarchy (stalling l.side l.source) l.search l.meet c
      × IsPartlyTraced l.hierarchy (stalling l.side l.source) l.search l.meet l.node c l.fn.pending.items l.pending;
  capacity : vec_capacity l.pending ≡ vec_capacity l.fn.pending;
}

abbrev pub decreases-loop-node : goal.decreases-loop-node
decreases-loop-node l = slice_index l.hierarchy.level l.node
