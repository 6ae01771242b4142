-- There are at most as many names as branches before the current one, and if there are as many, they are their nodes.
use Rattle.std.proofs.Common.{◌≡◌, ◌≤◌, [], length, map, take}
use Rattle.ch_engine.proofs.source_tree.SourceTree.note.Given as goal

abbrev pub invariant-loop-branch : goal.invariant-loop-branch
invariant-loop-branch l = record {
  none : l.self.branches.items ≡ [];
  few : length l.self.slots.names ≤ l.branch-index;
  nodes : length l.self.slots.names ≡ l.branch-index →
      l.self.slots.names ≡ map (λ branch. branch.node) (take l.branch-index l.branches);
}
