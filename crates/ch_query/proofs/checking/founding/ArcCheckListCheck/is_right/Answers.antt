-- The leg is judged by the rows of the graph's arcs.
use Rattle.std.specs.Prelude.{◌↔◌, IsTrue}
use Rattle.std.proofs.Common.{subst}
use Rattle.ch_graph.specs.Graph.{Network}
use Rattle.ch_query.specs.Checking.{IsArcIfBase}
use Rattle.ch_query.proofs.checking.founding.ArcCheckListCheck.is_right.Goals as goal

pub is_arc_if_base-requires : goal.is_arc_if_base-requires
is_arc_if_base-requires c = (c.self.inside.graph.now, c.self.invariant.1)

pub returns : goal.returns
returns c =
    subst (λ (g : Network). IsTrue c.is_arc_if_base.result ↔ IsArcIfBase g c.args.item.now) c.self.view_is
    (c.is_arc_if_base.ensures c.self.inside.graph.now c.self.invariant.0 c.self.invariant.1)
