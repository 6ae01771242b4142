-- A leg without a middle is right exactly if it is an arc of the graph.
use Rattle.ch_query.proofs.faults.ArcRows.{base_arc}
use Rattle.ch_query.proofs.checking.founding.is_arc_if_base.Goals as goal

pub returns-then-leg-eq1 : goal.returns-then-leg-eq1
returns-then-leg-eq1 c =
    λ g limits are. base_arc g c.args.leg c.is_arc.result c.if-leg-eq1.true c.if-is_some.ensures (c.is_arc.ensures g limits are)
