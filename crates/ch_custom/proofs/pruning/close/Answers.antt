-- The legs that are left are what pruning leaves of the customized hierarchy, and kept.
use Rattle.std.proofs.Common.{subst, sym}
use Rattle.std.proofs.lemmas.Result.{IfOk-weaker}
use Rattle.ch_hierarchy.specs.Kept.{IsKept}
use Rattle.ch_custom.specs.Pruning.{IsCustomizedAndPruned}
use Rattle.ch_custom.proofs.theory.PrunedRows.{levelled_rows, pruned_rows, kept_rows}
use Rattle.ch_custom.proofs.pruning.close.Goals as goal

pub from_rows-requires : goal.from_rows-requires
from_rows-requires c =
    levelled_rows _ _ _ _ c.nodes-nodes.ensures.limits c.requires.ready c.requires.levels c.requires.customized _ c.requires.metric _ _
    c.requires.up c.requires.down

pub returns-clause-pruned : goal.returns-clause-pruned
returns-clause-pruned c =
    IfOk-weaker c.from_rows.result _ _ (λ h e. subst (IsCustomizedAndPruned c.args.graph.now c.args._order.now) (sym e)
    (pruned_rows _ _ _ _ c.nodes-nodes.ensures.limits c.requires.ready c.requires.levels c.requires.customized _ c.requires.metric _ _
    c.requires.up c.requires.down)) c.from_rows.ensures

pub returns-clause-kept : goal.returns-clause-kept
returns-clause-kept c =
    IfOk-weaker c.from_rows.result _ _ (λ h e. subst (IsKept c.args.graph.now) (sym e)
    (kept_rows _ _ _ _ c.nodes-nodes.ensures.limits c.requires.ready c.requires.levels c.requires.customized _ c.requires.metric _ _
    c.requires.up c.requires.down)) c.from_rows.ensures
