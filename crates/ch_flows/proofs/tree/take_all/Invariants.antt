-- The legs of the entries before the current one were taken.
use Rattle.std.proofs.Common.{◌≡◌, length}
use Rattle.ch_flows.specs.Trees.{AreSlots}
use Rattle.ch_flows.proofs.tree.take_all.Given as goal

abbrev pub invariant-loop-j : goal.invariant-loop-j
invariant-loop-j l = record {
  long : length l.steps ≡ length l.fn.steps;
  slots : AreSlots l.side l.hierarchy l.layout.links.items l.entries l.j l.steps;
}
