-- The legs before the current place are placed on their sides, in the order of the list.
use Rattle.ch_hierarchy.specs.Placing.{from_of, to_of}
use Rattle.ch_hierarchy.proofs.code.PairFaults.{ArePlacedBefore}
use Rattle.ch_hierarchy.proofs.placing.place_legs.Given as goal

abbrev pub invariant-loop-place : goal.invariant-loop-place
invariant-loop-place l = record {
  up : ArePlacedBefore from_of to_of l.levels l.legs l.place l.ups.items;
  down : ArePlacedBefore to_of from_of l.levels l.legs l.place l.downs.items;
}
