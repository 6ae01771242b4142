-- The entries before the current one have items, and those from there on are unchanged.
use Rattle.std.proofs.Common.{◌≡◌, ℕ, ◌<◌, ◌≤◌, get_or}
use Rattle.ch_rows.specs.Dealing.{dealt, item_of}
use Rattle.ch_rows.proofs.buckets.deal_list.Given as goal

abbrev pub invariant-loop-entry : goal.invariant-loop-entry
invariant-loop-entry l = record {
  before : (i : ℕ) (d : ℕ × ℕ) → i < l.entry-index → get_or l.entry-items i d ≡ dealt (item_of l.dealing) (get_or l.fn.list.items i d);
  rest : (i : ℕ) (d : ℕ × ℕ) → l.entry-index ≤ i → get_or l.entry-items i d ≡ get_or l.fn.list.items i d;
}
