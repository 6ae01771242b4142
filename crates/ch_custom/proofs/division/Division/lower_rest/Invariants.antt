-- The legs are lowered over the nodes before this place.
use Rattle.ch_hierarchy.specs.declared.side.Side.TheVariants.{Up, Down}
use Rattle.ch_custom.specs.LegPairs.{rows_at}
use Rattle.ch_custom.specs.Topologies.{AreMetricsAt}
use Rattle.ch_custom.proofs.division.Division.lower_rest.Given as goal

abbrev pub invariant-loop-place : goal.invariant-loop-place
invariant-loop-place l = AreMetricsAt l.self.graph.now l.self.order.now l.own l.place (rows_at Up l.metric) (rows_at Down l.metric)
