-- The entries before the current one are appended, and each pair has a slot.
use Rattle.std.proofs.Common.{◌≡◌, ◌++◌, ◌<◌, length, take}
use Rattle.std.specs.Prelude.{All}
use Rattle.ch_graph.specs.Rows.{pairs_at}
use Rattle.ch_engine.specs.Slots.{named}
use Rattle.ch_engine.proofs.tables.push_entries.Given as goal

abbrev pub invariant-loop-entry : goal.invariant-loop-entry
invariant-loop-entry l = record {
  numbers : l.slots.numbers ≡ l.fn.slots.numbers;
  low : All (λ p. p.0 < length l.slots.names) l.pairs.items;
  adds : named l.slots.names l.pairs.items
      ≡ named l.fn.slots.names l.fn.pairs.items ++ pairs_at l.place (take l.entry-index l.space);
}
