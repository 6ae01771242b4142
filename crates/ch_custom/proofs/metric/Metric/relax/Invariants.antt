-- The rows of the nodes before this place are lowered.
use Rattle.ch_hierarchy.specs.declared.side.Side.{Side}
use Rattle.ch_hierarchy.specs.Side.{other}
use Rattle.ch_custom.specs.Topologies.{AreRelaxedTo}
use Rattle.ch_custom.specs.LegPairs.{row_of, rows_at}
use Rattle.ch_custom.proofs.metric.Metric.relax.Given as goal

abbrev pub invariant-loop-place : goal.invariant-loop-place
invariant-loop-place l = (side : Side) →
    AreRelaxedTo l.nodes l.middle (row_of (other side) l.taken) (row_of side l.taken) l.place (rows_at side l.fn.self) (rows_at side l.self)
