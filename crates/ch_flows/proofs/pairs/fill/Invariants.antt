-- The pairs before the current one are counted.
use Rattle.std.proofs.Common.{◌≡◌, ◌≤◌, length}
use Rattle.ch_hierarchy.specs.Hierarchy.{nodes_of}
use Rattle.ch_flows.specs.Plans.{AreCounted}
use Rattle.ch_flows.proofs.pairs.fill.Given as goal

abbrev pub invariant-loop-i : goal.invariant-loop-i
invariant-loop-i l = record {
  scratch : l.scratch ≡ nodes_of l.hierarchy;
  long : length l.flows ≡ length l.plan.parts.items;
  few : l.missed ≤ l.i;
  counted : AreCounted l.hierarchy l.plan.layout.links.items l.sources l.targets l.demands l.i l.flows l.missed;
}
