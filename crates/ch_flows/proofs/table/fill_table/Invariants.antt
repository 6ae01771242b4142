-- The cells of the rows before the current one are counted, and nothing is held for a row.
use Rattle.std.proofs.Common.{◌≡◌, ◌*◌, ◌≤◌, ℕ, List, length}
use Rattle.ch_hierarchy.specs.Hierarchy.{nodes_of}
use Rattle.ch_flows.specs.Cells.{AreTargetTrees, cell_sources, cell_targets, summed}
use Rattle.ch_flows.specs.Gathering.{IsNothing}
use Rattle.ch_flows.specs.Plans.{AreCountedBy}
use Rattle.ch_flows.proofs.table.fill_table.Given as goal

abbrev pub invariant-loop-i : goal.invariant-loop-i
invariant-loop-i l = record {
  scratch : l.scratch ≡ nodes_of l.hierarchy;
  places : length l.places.items ≡ nodes_of l.hierarchy;
  long : length l.sums.legs.items ≡ length l.plan.parts.items;
  held : length l.sums.columns.items ≡ length l.columns.branches.items;
  nothing : IsNothing l.sums.row.items;
  few : l.missed ≤ l.first;
  at : l.first ≡ l.i * length l.columns.trees.items;
  counted : (targets : List ℕ) → AreTargetTrees targets (length targets) l.columns.trees.items →
      AreCountedBy l.hierarchy l.plan.layout.links.items (cell_sources l.sources targets) (cell_targets l.sources targets) l.demands
      l.first (summed l.columns.branches.items l.sums) l.missed;
}
