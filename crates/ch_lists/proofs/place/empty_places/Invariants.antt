-- Each capacity before the current one has the place of an empty list, and the next place starts at the sum of these capacities.
use Rattle.std.proofs.Common.{◌≡◌, ◌≤◌, length, take, sum, vec_capacity}
use Rattle.ch_lists.specs.Places.{AreEmptyPlaces}
use Rattle.ch_lists.proofs.place.empty_places.Given as goal

abbrev pub invariant-loop-room : goal.invariant-loop-room
invariant-loop-room l = record {
  room : length l.rooms ≤ vec_capacity l.places;
  start : l.start ≡ sum (take l.room-index l.rooms);
  placed : AreEmptyPlaces l.room-index l.start l.places.items;
}
