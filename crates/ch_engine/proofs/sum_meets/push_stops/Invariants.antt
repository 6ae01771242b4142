-- The branches before the current one are appended, and each pair has a slot.
use Rattle.std.proofs.Common.{◌≡◌, ◌++◌, ◌<◌, length, map, take}
use Rattle.std.specs.Prelude.{All}
use Rattle.ch_engine.specs.Slots.{named}
use Rattle.ch_engine.specs.TableSums.{stop_pair}
use Rattle.ch_engine.proofs.sum_meets.push_stops.Given as goal

abbrev pub invariant-loop-branch : goal.invariant-loop-branch
invariant-loop-branch l = record {
  numbers : l.slots.numbers ≡ l.fn.slots.numbers;
  low : All (λ p. p.0 < length l.slots.names) l.pairs.items;
  adds : named l.slots.names l.pairs.items
      ≡ named l.fn.slots.names l.fn.pairs.items ++ map (stop_pair l.place) (take l.branch-index l.branches);
}
