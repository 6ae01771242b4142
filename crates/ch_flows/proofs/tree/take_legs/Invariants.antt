-- The legs before the current one were taken.
use Rattle.std.proofs.Common.{◌≡◌, length}
use Rattle.ch_flows.specs.Trees.{AreSlots, AreSlotsWithin}
use Rattle.ch_flows.proofs.tree.take_legs.Given as goal

abbrev pub invariant-loop-k : goal.invariant-loop-k
invariant-loop-k l = record {
  long : length l.steps ≡ length l.fn.steps;
  slots : AreSlots l.side l.hierarchy l.layout.links.items l.entries l.place l.fn.steps →
      AreSlotsWithin l.side l.hierarchy l.layout.links.items l.entries l.place l.k l.steps;
}
