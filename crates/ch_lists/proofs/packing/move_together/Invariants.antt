-- The lists before the current entry are moved up to the end, and all lists have the values that they had.
use Rattle.std.proofs.Common.{◌≡◌, ℕ, ◌<◌, ◌≤◌, length, get_or}
use Rattle.ch_lists.specs.Places.{lists_at, ArePlaces}
use Rattle.ch_lists.specs.Packing.{IsMovedUpTo}
use Rattle.ch_lists.proofs.packing.move_together.Given as goal

abbrev pub invariant-loop-entry : goal.invariant-loop-entry
invariant-loop-entry g l = record {
  within : l.end ≤ length l.values.items;
  numbers : (j : ℕ) (d : ℕ × ℕ) → j < length l.order → (get_or l.order j d).1 < length l.fn.places;
  placed : ArePlaces l.places (length l.values.items);
  same : lists_at l.values.items l.places ≡ lists_at l.fn.values.items l.fn.places;
  moved : IsMovedUpTo l.places l.order l.entry-index l.end;
}
