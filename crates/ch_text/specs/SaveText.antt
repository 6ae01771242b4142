-- The text of a saved hierarchy.
use Rattle.std.specs.Prelude.{◌≡◌, ℕ, List, ◌++◌, flat_map, length, Option, Some, None, codes, decimal}
use Rattle.ch_graph.specs.declared.saved.SavedLeg.{SavedLeg}
use Rattle.ch_graph.specs.Saved.{OrderAndLegs}
use Rattle.ch_hierarchy.specs.Hierarchy.{LevelsAndLegs}
use Rattle.ch_hierarchy.specs.Written.{IsByLevel, written}
use Rattle.ch_text.specs.Distances.{node_text}

-- a leg without a middle has 0
abbrev pub middle_text : Option ℕ → List ℕ
middle_text None = codes "0"
middle_text (Some v) = node_text v

-- a node of the order
abbrev pub order_text : ℕ → List ℕ
order_text v = codes "o " ++ node_text v ++ codes "\n"

-- a leg: from, to, weight, arcs, middle
abbrev pub leg_text : SavedLeg → List ℕ
leg_text l = codes "l " ++ node_text l.from ++ codes " " ++ node_text l.to ++ codes " " ++ decimal l.cost.weight ++ codes " "
    ++ decimal l.cost.arcs ++ codes " " ++ middle_text l.middle ++ codes "\n"

-- the numbers of nodes and of legs, then the order, and then the legs
abbrev pub saved_text : OrderAndLegs → List ℕ
saved_text s = codes "p ch " ++ decimal (length s.order) ++ codes " " ++ decimal (length s.legs) ++ codes "\n"
    ++ flat_map order_text s.order ++ flat_map leg_text s.legs

-- the text of a hierarchy: its nodes and their legs, in order of level
abbrev pub IsHierarchyText : LevelsAndLegs → List ℕ → Type 0
IsHierarchyText H text = (order : List ℕ) × IsByLevel H order × (text ≡ saved_text (written H order))
