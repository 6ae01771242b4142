-- The branches of the entries so far are appended.
use Rattle.std.proofs.Common.{◌≡◌, List, length}
use Rattle.ch_hierarchy.specs.Hierarchy.{LevelsAndLegs}
use Rattle.ch_hierarchy.specs.declared.side.Side.{Side as AnySide}
use Rattle.ch_flows.specs.declared.plan.Link.{Link as AnyLink}
use Rattle.ch_flows.specs.Trees.{AreBranches, AreMoreBranches, IsReach}
use Rattle.ch_flows.proofs.tree.Reach.append_all.Given as goal

abbrev pub invariant-loop-place : goal.invariant-loop-place
invariant-loop-place l = record {
  long : length l.spots ≡ length l.fn.spots;
  branches : (side : AnySide) (H : LevelsAndLegs) (links : List AnyLink) → IsReach side H links l.self →
      AreBranches side H links l.fn.branches.items → AreBranches side H links l.branches.items;
  more : AreMoreBranches l.fn.branches.items l.branches.items;
}

abbrev pub decreases-loop-place : goal.decreases-loop-place
decreases-loop-place l = goal.left-loop-place l
