-- The arcs before this place are put in.
use Rattle.std.proofs.Common.{take}
use Rattle.ch_hierarchy.specs.declared.side.Side.TheVariants.{Up, Down}
use Rattle.ch_custom.specs.LegPairs.{rows_at}
use Rattle.ch_custom.specs.Opening.{AreOfArcs}
use Rattle.ch_custom.proofs.customizing.put_arcs.Given as goal

abbrev pub invariant-loop-place : goal.invariant-loop-place
invariant-loop-place l = AreOfArcs l.graph.nodes l.order l.rows (take l.place l.graph.arcs) (rows_at Up l.metric) (rows_at Down l.metric)
