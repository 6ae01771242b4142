-- The written form of a hierarchy: its nodes in order of level, and the legs of each.
use Rattle.std.specs.Prelude.{ℕ, List, ◌++◌, map, flat_map}
use Rattle.ch_graph.specs.declared.saved.SavedLeg.{SavedLeg}
use Rattle.ch_graph.specs.Saved.{OrderAndLegs}
use Rattle.ch_hierarchy.specs.declared.leg.Leg.{Leg}
use Rattle.ch_hierarchy.specs.Rows.{row}
use Rattle.ch_hierarchy.specs.Hierarchy.{LevelsAndLegs, nodes_of}
use Rattle.ch_hierarchy.specs.Saved.{IsOrderOf, AreLevelsOf}

-- a leg from v to a higher node, and a leg from a higher node to v
abbrev pub leg_up : ℕ → Leg → SavedLeg
leg_up v l = record { from = v; to = l.node; cost = l.cost; middle = l.middle }

abbrev pub leg_down : ℕ → Leg → SavedLeg
leg_down v l = record { from = l.node; to = v; cost = l.cost; middle = l.middle }

-- the legs of v, with those to higher nodes first
abbrev pub legs_at : LevelsAndLegs → ℕ → List SavedLeg
legs_at H v = map (leg_up v) (row H.up v) ++ map (leg_down v) (row H.down v)

-- the nodes in order of level
pub record IsByLevel (H : LevelsAndLegs) (order : List ℕ) : Type 0 where
  pub nodes : IsOrderOf (nodes_of H) order
  pub levels : AreLevelsOf order H.level

-- the nodes in this order, and the legs of each node in the same order
abbrev pub written : LevelsAndLegs → List ℕ → OrderAndLegs
written H order = record { order = order; legs = flat_map (legs_at H) order }
