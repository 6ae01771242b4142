-- The entries are those of the lists before the current one that are not empty, and there is capacity for all lists.
use Rattle.std.proofs.Common.{◌≤◌, length, vec_len, vec_capacity}
use Rattle.ch_lists.specs.Packing.{AreListed}
use Rattle.ch_lists.proofs.packing.listed.Given as goal

abbrev pub invariant-loop-list : goal.invariant-loop-list
invariant-loop-list l = record {
  room : length l.places ≤ vec_capacity l.entries;
  few : vec_len l.entries ≤ l.list;
  listed : AreListed l.places l.list l.entries.items;
}
