-- The rows are those that are handed on.
use Rattle.std.proofs.Common.{sym, subst}
use Rattle.ch_custom.specs.Triangles.{AreNeeded}
use Rattle.ch_custom.proofs.topology.topology_of.Goals as goal

pub made-requires-clause-needed : goal.made-requires-clause-needed
made-requires-clause-needed c =
    subst (λ o. AreNeeded c.args.graph.now o c.in_ok-rows.rows) (sym c.in_ok-copied.ensures.items)
    (subst (AreNeeded c.args.graph.now c.args.order.now) (sym c.in_ok-rows.ensures) c.in_ok-hand_all_on.ensures.needed)
