-- The legs that were appended lead from the current node to the meet, and each turn goes to a node of lower level.
use Rattle.std.proofs.Common.{ℕ}
use Rattle.std.specs.Prelude.{slice_index}
use Rattle.ch_query.specs.Marks.{LeadBack}
use Rattle.ch_query.proofs.routing.MarkedSteps.{IsPartlyBack}
use Rattle.ch_query.proofs.routes.unique.descend_marked.Given as goal

abbrev pub invariant-loop-node : goal.invariant-loop-node
invariant-loop-node l = (most : ℕ) × LeadBack l.hierarchy l.side l.source most l.marks
    × IsPartlyBack l.hierarchy l.side l.source l.meet l.node most l.fn.legs.items l.legs.items

abbrev pub decreases-loop-node : goal.decreases-loop-node
decreases-loop-node l = slice_index l.hierarchy.level l.node
