-- The nodes before the current one have a word for each leg: the line of the arc between its ends, or none.
use Rattle.std.proofs.Common.{◌≡◌, ◌<◌, ℕ, [], length, slice_index, slice_index_or}
use Rattle.ch_hierarchy.specs.Rows.{row}
use Rattle.ch_hierarchy.specs.Side.{rows_of}
use Rattle.ch_engine.specs.Lines.{IsLineWord, Leads, head_of, node_at, tail_of}
use Rattle.ch_engine.proofs.lines.lines_of.Given as goal

abbrev pub invariant-loop-node : goal.invariant-loop-node
invariant-loop-node l = record {
  count : length l.rows ≡ l.node;
  long : (v : ℕ) → v < l.node → length (slice_index_or l.rows v []) ≡ length (row (rows_of l.hierarchy l.side) v);
  each : (v k : ℕ) → v < l.node → k < length (row (rows_of l.hierarchy l.side) v) →
      IsLineWord l.arcs (Leads l.arcs (tail_of l.side v (node_at (row (rows_of l.hierarchy l.side) v) k))
      (head_of l.side v (node_at (row (rows_of l.hierarchy l.side) v) k))) (slice_index (slice_index_or l.rows v []) k);
}
