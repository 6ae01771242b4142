-- The entries before the current one are marked.
use Rattle.std.proofs.Common.{◌≡◌, List, map, take}
use Rattle.ch_hierarchy.specs.Hierarchy.{LevelsAndLegs}
use Rattle.ch_hierarchy.specs.declared.side.Side.{Side as AnySide}
use Rattle.ch_flows.specs.declared.plan.Link.{Link as AnyLink}
use Rattle.ch_flows.specs.Trees.{AreBranches, AreMoreBranches, AreSpots, IsReach, plain}
use Rattle.ch_flows.proofs.tree.Reach.marks.Given as goal

abbrev pub invariant-loop-k : goal.invariant-loop-k
invariant-loop-k l = record {
  marked : map plain l.marks.items ≡ take l.k l.kept;
  spots : AreSpots l.branches.items l.self.source l.marks.items;
  branches : (side : AnySide) (H : LevelsAndLegs) (links : List AnyLink) → IsReach side H links l.self →
      AreBranches side H links l.fn.branches.items → AreBranches side H links l.branches.items;
  more : AreMoreBranches l.fn.branches.items l.branches.items;
}
