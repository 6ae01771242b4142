-- The entries that are kept have their branches.
use Rattle.std.proofs.Common.{ℕ, List, ◌<◌, length, sym, subst, ◌∙◌}
use Rattle.ch_graph.specs.declared.cost.Cost.{Cost}
use Rattle.ch_hierarchy.specs.Hierarchy.{nodes_of}
use Rattle.ch_hierarchy.specs.Side.{other, rows_of}
use Rattle.ch_flows.specs.Trees.{AreInOrder, AreKept, AreSpots, IsOpenSpread, entry_at}
use Rattle.ch_flows.proofs.KeptEntries.{open_spread}
use Rattle.ch_flows.proofs.tree.Tree.grow.Goals as goal

pub kept_of-requires-clause-order : goal.kept_of-requires-clause-order
kept_of-requires-clause-order c =
    subst (λ (es : List (ℕ × Cost)). AreInOrder es) (sym c.deref.ensures.value) c.in_ok-reach.ensures.reach.spread.order

pub kept_of-requires-clause-nodes : goal.kept_of-requires-clause-nodes
kept_of-requires-clause-nodes c =
    subst (λ (es : List (ℕ × Cost)). (k : ℕ) → k < length es → (entry_at es k).0 < nodes_of c.args.hierarchy.now)
    (sym c.deref.ensures.value) c.in_ok-reach.ensures.nodes

pub returns-clause-tree : goal.returns-clause-tree
returns-clause-tree c =
    let H = c.args.hierarchy.now in
    let rows = rows_of H c.args.root.side in
    let back = rows_of H (other c.args.root.side) in
    let reach = c.in_ok-reach.reach in
    let h = c.in_ok-reach.ensures in
    let entries = reach.entries.items in
    let kept = c.in_ok-kept.kept.items in
    let marks = c.in_ok-kept-2.kept.items in
    let made = c.in_ok-kept-2.ensures in
    let are = subst (λ (es : List (ℕ × Cost)). AreKept rows back es kept (length es)) c.deref.ensures.value
    (c.in_ok-kept.ensures {u = tt}) in
    let open_kept = open_spread rows back reach.source entries kept h.reach.spread are in
    record {
      kept = subst (IsOpenSpread rows back c.args.root.source) (sym (made.marked ∙ c.deref-2.ensures.value))
          (subst (λ (s : ℕ). IsOpenSpread rows back s kept) h.source open_kept);
      spots = subst (λ (s : ℕ). AreSpots c.marks.new.branches.items s marks) h.source made.spots;
    }
