-- One more node is appended only if it has a key.
use Rattle.std.proofs.Common.{◌≤◌, ◌+◌, List, ℕ, sym, subst, length}
use Rattle.std.specs.Prelude.{All}
use Rattle.ch_order.specs.Quick.{HasKey}
use Rattle.ch_order.proofs.QuickSteps.{pushed_if}
use Rattle.ch_order.proofs.construction.Construction.stale_among.Goals as goal

pub loop-node-preserved : goal.loop-node-preserved
loop-node-preserved c =
    subst (λ (l : List ℕ). All (HasKey c.args.self.now.waiting) l × (length l ≤ c.loop-node.node-index + 1)) (sym c.in_ok-push_if.ensures)
    (pushed_if c.args.self.now.waiting _ _ _ _ c.is_stale-stale.ensures c.loop-node.invariant)
