-- The legs are those of the hierarchy in this order, which is kept.
use Rattle.std.proofs.Common.{subst, sym}
use Rattle.std.proofs.lemmas.Result.{IfOk-weaker}
use Rattle.ch_hierarchy.specs.Kept.{IsKept}
use Rattle.ch_contract.specs.Built.{IsHierarchyIn}
use Rattle.ch_custom.specs.Customizing.{Lowers}
use Rattle.ch_custom.specs.Topologies.{legs_after}
use Rattle.ch_custom.proofs.theory.Closed.{levelled_rows, hierarchy_rows, kept_rows}
use Rattle.ch_custom.proofs.customizing.closed.Goals as goal

pub from_rows-requires : goal.from_rows-requires
from_rows-requires c =
    levelled_rows _ _ _ _ c.nodes-nodes.ensures.limits c.requires.ready c.requires.levels _ _ c.requires.rows.metric _ _
    c.requires.rows.up c.requires.rows.down

pub returns-clause-hierarchy : goal.returns-clause-hierarchy
returns-clause-hierarchy c =
    IfOk-weaker c.from_rows.result _ _
    (λ h e. subst (λ z. IsHierarchyIn (Lowers c.args.graph.now.nodes) c.args.graph.now z c.args._order.now
    (legs_after c.args.graph.now c.args._order.now)) (sym e)
    (hierarchy_rows _ _ _ _ c.nodes-nodes.ensures.limits c.requires.ready c.requires.levels _ _ c.requires.rows.metric _ _
    c.requires.rows.up c.requires.rows.down)) c.from_rows.ensures

pub returns-clause-kept : goal.returns-clause-kept
returns-clause-kept c =
    IfOk-weaker c.from_rows.result _ _ (λ h e. subst (IsKept c.args.graph.now) (sym e)
    (kept_rows _ _ _ _ c.nodes-nodes.ensures.limits c.requires.ready c.requires.levels _ _ c.requires.rows.metric _ _
    c.requires.rows.up c.requires.rows.down)) c.from_rows.ensures
