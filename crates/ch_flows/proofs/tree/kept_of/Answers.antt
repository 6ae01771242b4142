-- One more entry is kept or left out.
use Rattle.std.proofs.Common.{◌+◌, ℕ, List, ap, refl, sym, subst, ◌∙◌}
use Rattle.ch_graph.specs.declared.cost.Cost.{Cost}
use Rattle.ch_hierarchy.specs.Side.{other, rows_of}
use Rattle.ch_flows.specs.Trees.{AreKept, entry_at}
use Rattle.ch_flows.proofs.KeptEntries.{kept_less, kept_more}
use Rattle.ch_flows.proofs.tree.kept_of.Goals.{then-not-is_stalled+in_ok-push, else-not-is_stalled}
use Rattle.ch_flows.proofs.tree.kept_of.Goals as goal

pub loop-i-preserved : goal.loop-i-preserved
loop-i-preserved c =
    let rows = rows_of c.args.hierarchy.now c.args.side in
    let back = rows_of c.args.hierarchy.now (other c.args.side) in
    let entries = c.args.entries.now in
    let old = c.loop-i.kept.items in
    let i = c.loop-i.i in
    elim c.if-not-is_stalled.branch [
      | then-not-is_stalled+in_ok-push w ↦ kept_more rows back entries c.requires.order old c.if-not-is_stalled.kept.items i
          (entry_at entries i) c.loop-i-test.true refl (ap (λ v. v.items) w.kept-is ∙ (w.in_ok-push.ensures {u = tt}).items)
          c.loop-i.invariant
      | else-not-is_stalled w ↦ subst (λ (l : List (ℕ × Cost)). AreKept rows back entries l (i + 1)) (sym (ap (λ v. v.items) w.kept-is))
          (kept_less rows back entries old i (c.is_stalled.ensures w.if-not-is_stalled.false) c.loop-i.invariant)
    ]
