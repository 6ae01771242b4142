-- The lists before the current one have items, and those from there on are unchanged.
use Rattle.std.proofs.Common.{◌≡◌, ℕ, ◌<◌, ◌≤◌, Vec, map, get_or}
use Rattle.std.specs.declared.alloc.Global.{Global}
use Rattle.ch_rows.specs.Dealing.{dealt, item_of}
use Rattle.ch_rows.proofs.buckets.Buckets.of_lists.Given as goal

abbrev pub invariant-loop-list : goal.invariant-loop-list
invariant-loop-list l = record {
  before : (i : ℕ) (d : Vec (ℕ × ℕ) Global) → i < l.list-index →
      (get_or l.list-items i d).items ≡ map (dealt (item_of l.dealing)) (get_or l.fn.lists.items i d).items;
  rest : (i : ℕ) (d : Vec (ℕ × ℕ) Global) → l.list-index ≤ i → get_or l.list-items i d ≡ get_or l.fn.lists.items i d;
}
