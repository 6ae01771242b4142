-- The cells of the row before the current one are counted.
use Rattle.std.proofs.Common.{◌≡◌, ◌+◌, ◌≤◌, ℕ, List, length}
use Rattle.ch_hierarchy.specs.Hierarchy.{nodes_of}
use Rattle.ch_flows.specs.Cells.{AreSums, IsRowAt, summed_with}
use Rattle.ch_flows.specs.Plans.{AreCountedBy}
use Rattle.ch_flows.proofs.table.add_cells.Given as goal

abbrev pub invariant-loop-c : goal.invariant-loop-c
invariant-loop-c l = record {
  scratch : l.scratch ≡ nodes_of l.hierarchy;
  long : length l.sums.legs.items ≡ length l.plan.parts.items;
  sums : AreSums l.row.branches.items l.columns.branches.items l.sums;
  few : l.missed ≤ l.c;
  counted : (sources targets demands : List ℕ) (first missed : ℕ) →
      IsRowAt sources targets demands first l.row.tree.source l.columns.trees.items l.cells →
      AreCountedBy l.hierarchy l.plan.layout.links.items sources targets demands first
      (summed_with l.row.branches.items l.columns.branches.items l.fn.sums) missed →
      AreCountedBy l.hierarchy l.plan.layout.links.items sources targets demands (first + l.c)
      (summed_with l.row.branches.items l.columns.branches.items l.sums) (missed + l.missed);
}
