-- The legs of a node, in a row.
use Rattle.std.specs.Prelude.{◌≡◌, ℕ, ◌==◌, List, Option, option_map, find}
use Rattle.ch_hierarchy.specs.declared.leg.Leg.{Leg}
use Rattle.ch_hierarchy.specs.Rows.{IsRow}
use Rattle.ch_contract.specs.Legs.{Label, Legs}

abbrev pub label_of : Leg → Label
label_of l = record { cost = l.cost; middle = l.middle }

-- the leg of the row at node x
abbrev pub row_leg : List Leg → ℕ → Option Label
row_leg legs x = option_map label_of (find (λ l. l.node == x) legs)

-- the legs from v, each at its end
abbrev pub AreLegsFrom : Legs → ℕ → List Leg → Type 0
AreLegsFrom L v legs = IsRow legs × ((x : ℕ) → row_leg legs x ≡ L v x)

-- the legs to v, each at its start
abbrev pub AreLegsTo : Legs → ℕ → List Leg → Type 0
AreLegsTo L v legs = IsRow legs × ((x : ℕ) → row_leg legs x ≡ L x v)
