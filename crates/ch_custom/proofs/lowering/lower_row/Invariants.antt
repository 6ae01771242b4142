-- The pairs before a place are lowered, and the others before the next have lesser nodes than the rest.
use Rattle.std.proofs.Common.{ℕ, ◌<◌, ◌≤◌, length, get_or}
use Rattle.ch_hierarchy.specs.declared.side.Side.{Side}
use Rattle.ch_hierarchy.specs.Side.{other}
use Rattle.ch_custom.specs.declared.leg_pair.LegPair.{LegPair}
use Rattle.ch_custom.specs.Metric.{AreLoweredTo}
use Rattle.ch_custom.specs.LegPairs.{leg_of, row_of}
use Rattle.ch_custom.proofs.lowering.lower_row.Given as goal

abbrev pub invariant-loop-next : goal.invariant-loop-next
invariant-loop-next l =
    ((side : Side) → AreLoweredTo l.nodes l.middle (leg_of (other side) l.one) (row_of side l.others) (row_of side l.fn.row) l.place
    (row_of side l.row))
    × (l.place ≤ length l.fn.row)
    × ((k j : ℕ) (d e : LegPair) → k < l.next → l.place ≤ j → j < length l.fn.row → (get_or l.others k d).node < (get_or l.fn.row j e).node)
