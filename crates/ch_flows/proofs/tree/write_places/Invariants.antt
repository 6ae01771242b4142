-- The places of the entries before the current one are written.
use Rattle.std.proofs.Common.{◌≡◌, length}
use Rattle.ch_flows.specs.Trees.{ArePlaced}
use Rattle.ch_flows.proofs.tree.write_places.Given as goal

abbrev pub invariant-loop-i : goal.invariant-loop-i
invariant-loop-i l = record {
  long : length l.places ≡ length l.fn.places;
  placed : ArePlaced l.entries l.i l.places;
}
