-- The empty lists before the current place have the place without capacity, and the places from there on are unchanged.
use Rattle.std.proofs.Common.{◌≡◌, ℕ, ◌<◌, ◌≤◌, get_or}
use Rattle.ch_lists.specs.declared.place.Place.{Place}
use Rattle.ch_lists.specs.Packing.{closed}
use Rattle.ch_lists.proofs.packing.close_empty.Given as goal

abbrev pub invariant-loop-place : goal.invariant-loop-place
invariant-loop-place l = record {
  before : (i : ℕ) (d : Place) → i < l.place-index → get_or l.places i d ≡ closed (get_or l.initial.places i d);
  rest : (i : ℕ) (d : Place) → l.place-index ≤ i → get_or l.places i d ≡ get_or l.initial.places i d;
}
