-- The legs of the pairs of a topology, in both directions.
use Rattle.std.specs.Prelude.{◌≡◌, ℕ, ◌+◌, ◌==◌, ◌&&◌, nat_lt, if◌then◌else◌, List, [], map, All, slice_index_or, Option, Some, None}
use Rattle.ch_graph.specs.declared.limits.TheConstants.{MOST_WEIGHT}
use Rattle.ch_hierarchy.specs.declared.leg.Leg.{Leg}
use Rattle.ch_hierarchy.specs.declared.side.Side.{Side}
use Rattle.ch_hierarchy.specs.declared.side.Side.TheVariants.{Up, Down}
use Rattle.ch_hierarchy.specs.Rows.{IsRow}
use Rattle.ch_hierarchy.specs.Side.{other}
use Rattle.ch_custom.specs.declared.leg_pair.Held.{Held}
use Rattle.ch_custom.specs.declared.leg_pair.LegPair.{LegPair}
use Rattle.ch_custom.specs.declared.leg_pair.TheConstants.{NO_MIDDLE, BEATEN}
use Rattle.ch_custom.specs.Customizing.{leg_over}
use Rattle.ch_custom.specs.Metric.{held_leg, IsHeld, AreLoweredOver}
use Rattle.ch_custom.specs.Topologies.{AreRelaxed}

-- the middle of a leg, which NO_MIDDLE says that it has none of
abbrev pub middle_of : ℕ → Option ℕ
middle_of m = if m == NO_MIDDLE then None else Some m

-- the leg to or from this node
abbrev pub leg_at : ℕ → Held → Leg
leg_at node h = record { node = node; cost = record { weight = h.weight; arcs = h.arcs }; middle = middle_of h.middle }

-- the leg of a pair in a direction
abbrev pub leg_of : Side → LegPair → Leg
leg_of Up p = leg_at p.node p.up
leg_of Down p = leg_at p.node p.down

-- the legs of a row in a direction, and those of all rows
abbrev pub row_of : Side → List LegPair → List Leg
row_of side pairs = map (leg_of side) pairs

abbrev pub rows_at : Side → List (List LegPair) → List (List Leg)
rows_at side rows = map (row_of side) rows

-- the row of a node
abbrev pub pairs_row : List (List LegPair) → ℕ → List LegPair
pairs_row rows v = slice_index_or rows v []

-- no leg
abbrev pub held_none : Held
held_none = record { weight = MOST_WEIGHT + 1; arcs = 0; middle = NO_MIDDLE }

-- the pair with this higher node, without a leg
abbrev pub no_pair : ℕ → LegPair
no_pair node = record { node = node; up = held_none; down = held_none }

-- the pair with its legs in the other directions
abbrev pub turned_pair : LegPair → LegPair
turned_pair p = record { node = p.node; up = p.down; down = p.up }

-- a leg, or none if it is beaten
abbrev pub unbeaten_held : Held → Held
unbeaten_held h = if h.middle == BEATEN then held_none else h

-- the pair without the legs that are beaten
abbrev pub unbeaten_pair : LegPair → LegPair
unbeaten_pair p = record { node = p.node; up = unbeaten_held p.up; down = unbeaten_held p.down }

-- the pair with an arc of this weight in a direction if it is at `node` and lighter
abbrev pub lightened_pair : Side → ℕ → ℕ → LegPair → LegPair
lightened_pair Up node weight p = if p.node ==
    node && nat_lt weight p.up.weight then record {
      node = p.node;
      up = record { weight = weight; arcs = 1; middle = NO_MIDDLE };
      down =
          p.down;
    } else p
lightened_pair Down node weight p = if p.node ==
    node && nat_lt weight p.down.weight then record {
      node = p.node;
      up = p.up;
      down =
          record { weight = weight; arcs = 1; middle = NO_MIDDLE };
    } else p

-- a leg is lowered over v to the sum of the legs a and b
abbrev pub IsLowered : ℕ → ℕ → Leg → Leg → Leg → Leg → Type 0
IsLowered n v a b old new = held_leg new ≡ leg_over n v (held_leg a) (held_leg b) (held_leg old)

-- both legs of a pair are lowered over v: with the leg of `one` to or from v, and with that of `another`
abbrev pub IsPairLowered : ℕ → ℕ → LegPair → LegPair → LegPair → LegPair → Type 0
IsPairLowered n v one another old new = (side : Side) →
    IsLowered n v (leg_of (other side) one) (leg_of side another) (leg_of side old) (leg_of side new)

-- both legs can be added up
abbrev pub AreHeld : LegPair → Type 0
AreHeld p = (side : Side) → IsHeld (leg_of side p)

-- the rows in both directions are in order, and their legs can be added up
abbrev pub IsReady : List LegPair → Type 0
IsReady pairs = (side : Side) → IsRow (row_of side pairs) × All IsHeld (row_of side pairs)

-- each pair of a row is lowered over v in both directions: with one pair, and the pair of `others` to the same node
abbrev pub ArePairsLowered : ℕ → ℕ → LegPair → List LegPair → List LegPair → List LegPair → Type 0
ArePairsLowered n v one others before after = (side : Side) →
    AreLoweredOver n v (leg_of (other side) one) (row_of side others) (row_of side before) (row_of side after)

-- the row of each node of `taken` is lowered over v
abbrev pub ArePairsRelaxed : ℕ → ℕ → List LegPair → List (List LegPair) → List (List LegPair) → Type 0
ArePairsRelaxed n v taken old new = (side : Side) →
    AreRelaxed n v (row_of (other side) taken) (row_of side taken) (rows_at side old) (rows_at side new)
