-- Rooms for judging nodes.
use Rattle.std.specs.Prelude.{ℕ, ◌<◌, ◌≤◌, List, [], length, map, slice_index, slice_index_or}
use Rattle.ch_graph.specs.declared.cost.Cost.{Cost}
use Rattle.ch_contract.specs.declared.held_cost.Word.{Word}
use Rattle.ch_contract.specs.declared.room.Room.{Room}
use Rattle.ch_contract.specs.declared.witness_searches.WitnessSearches.{WitnessSearches}
use Rattle.ch_contract.specs.declared.shortcut.Shortcut.{Shortcut}
use Rattle.ch_contract.specs.Legs.{Legs}
use Rattle.ch_contract.specs.Contraction.{AreShortcuts}
use Rattle.ch_contract.specs.HeldCosts.{cost_in}
use Rattle.ch_contract.specs.KnownCosts.{IsIdle, known_of}

-- the list of shortcuts at a place
abbrev pub list_at : Room → ℕ → List Shortcut
list_at room k = slice_index_or (map (λ v. v.items) room.lists.items) k []

-- the searches over words and over pairs are idle
abbrev pub AreIdle : WitnessSearches → Type 0
AreIdle s = IsIdle (known_of (λ (w : Word). cost_in w.0) s.words.known) × IsIdle (known_of (λ (c : Cost). c) s.pairs.known)

-- the searches of the room are idle; it may keep any shortcuts
abbrev pub IsIdleRoom : Room → Type 0
IsIdleRoom room = AreIdle room.searches

-- the searches of the room are idle, and it keeps the shortcuts of each judged node with these legs
pub record IsReady (n h : ℕ) (L : Legs) (room : Room) : Type 0 where
  pub idle : AreIdle room.searches
  pub places : length room.judged.items ≤ length room.lists.items
  pub kept : (k : ℕ) → k < length room.judged.items → AreShortcuts n h L (slice_index room.judged.items k) (list_at room k)
