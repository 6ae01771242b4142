-- The pairs are those of the targets before the current one, and each has a slot.
use Rattle.std.proofs.Common.{◌≡◌, ◌<◌, length}
use Rattle.std.specs.Prelude.{All, MatchOption, ⊤}
use Rattle.ch_hierarchy.specs.Hierarchy.{nodes_of}
use Rattle.ch_engine.specs.Slots.{named}
use Rattle.ch_engine.proofs.TableWords.{HaveSpaces}
use Rattle.ch_engine.proofs.network.Network.find_entries.Given as goal

abbrev pub invariant-loop-c : goal.invariant-loop-c
invariant-loop-c l = record {
  scratch : l.scratch ≡ l.fn.scratch;
  tree : MatchOption l.by_tree ⊤ (λ scratch. scratch ≡ nodes_of l.self.0);
  numbers : l.slots.numbers ≡ l.fn.slots.numbers;
  low : All (λ p. p.0 < length l.slots.names) l.pairs.items;
  pairs : HaveSpaces l.self.0 l.within l.targets l.c (named l.slots.names l.pairs.items);
}
