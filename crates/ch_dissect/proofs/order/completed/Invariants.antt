-- The nodes of the list before the place are put, and then the nodes with lesser numbers.
use Rattle.std.proofs.Common.{◌≡◌, ℕ, ◌<◌, take, Contains}
use Rattle.ch_hierarchy.specs.Saved.{IsOrderOf}
use Rattle.ch_dissect.specs.Orders.{IsBegun}
use Rattle.ch_dissect.proofs.order.completed.Given as goal

abbrev pub invariant-loop-place : goal.invariant-loop-place
invariant-loop-place l = record {
  begun : IsBegun l.n l.nodes.items l.taken.items;
  same : IsOrderOf l.n l.list → l.nodes.items ≡ take l.place l.list;
}

abbrev pub invariant-loop-node : goal.invariant-loop-node
invariant-loop-node l = record {
  begun : IsBegun l.n l.nodes.items l.taken.items;
  each : (v : ℕ) → v < l.node → Contains l.nodes.items v;
  same : IsOrderOf l.n l.list → l.nodes.items ≡ l.list;
}
