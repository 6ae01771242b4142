-- The hierarchy of an engine with the lines of its legs, and what the engine keeps: its places, and the values of its lines.
use Rattle.std.specs.Prelude.{◌≡◌, ℕ, List, Option, None, Some}
use Rattle.ch_hierarchy.specs.Hierarchy.{LevelsAndLegs}
use Rattle.ch_rows.specs.Searched.{Asked}
use Rattle.ch_engine.specs.Lines.{Lines}

-- a hierarchy, the lines of its legs, what is asked of the kept places, and the kept values of the lines, if there are some
pub record Held : Type 0 where
  pub hierarchy : LevelsAndLegs
  pub lines : Lines
  pub near : Option Asked
  pub values : Option (List ℕ)

-- a hierarchy with its lines alone
abbrev pub only : LevelsAndLegs → Lines → Held
only H lines = record { hierarchy = H; lines = lines; near = None; values = None }

-- neither places nor values are kept
abbrev pub KeepsNothing : Held → Type 0
KeepsNothing held = (held.near ≡ None) × (held.values ≡ None)

-- the same with other places
abbrev pub with_places : Held → Asked → Held
with_places held asked = record { hierarchy = held.hierarchy; lines = held.lines; near = Some asked; values = held.values }

-- the same with other values
abbrev pub with_values : Held → List ℕ → Held
with_values held values = record { hierarchy = held.hierarchy; lines = held.lines; near = held.near; values = Some values }

-- the same without places
abbrev pub without_places : Held → Held
without_places held = record { hierarchy = held.hierarchy; lines = held.lines; near = None; values = held.values }
