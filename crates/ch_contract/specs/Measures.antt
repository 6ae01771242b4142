-- The measures of nodes, and the depths of neighbours.
use Rattle.std.specs.Prelude.{◌≡◌, ℕ, ◌≤◌, List, length, slice_index, max, Contains}
use Rattle.ch_contract.specs.declared.measure.Measure.{Measure}
use Rattle.ch_contract.specs.declared.shortcut.Shortcut.{Shortcut}
use Rattle.ch_contract.specs.Legs.{Legs}
use Rattle.ch_contract.specs.Contraction.{AreShortcuts, count_touching}

-- the measure of v: the number of its shortcuts, and the number of legs that touch it
abbrev pub IsMeasure : ℕ → ℕ → Legs → ℕ → Measure → Type 0
IsMeasure n h L v m = (list : List Shortcut) × AreShortcuts n h L v list × (m.shortcuts ≡ length list) × (m.legs ≡ count_touching n L v)

-- the measure of v. If v has more than `most` shortcuts, more than `most` of them are counted, and maybe not all
abbrev pub IsMeasureUpTo : ℕ → ℕ → ℕ → Legs → ℕ → Measure → Type 0
IsMeasureUpTo most n h L v m = (list : List Shortcut) × AreShortcuts n h L v list × (m.shortcuts ≤ length list)
    × (m.shortcuts ≤ most → m.shortcuts ≡ length list) × (m.legs ≡ count_touching n L v)

-- these nodes now have at least this depth, and the others keep their depths
pub record AreDeepened (nodes : List ℕ) (deep : ℕ) (before after : List ℕ) : Type 0 where
  pub size : length after ≡ length before
  pub anew : (x : ℕ) → Contains nodes x → slice_index after x ≡ max (slice_index before x) deep
  pub kept : (x : ℕ) → (Contains nodes x → ⊥) → slice_index after x ≡ slice_index before x
