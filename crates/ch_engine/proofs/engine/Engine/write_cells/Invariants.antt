-- The sources before the current one have their cells, and what is behind these is as before.
use Rattle.std.proofs.Common.{◌≡◌, ◌*◌, ◌<◌, ℕ, length, slice_index}
use Rattle.ch_engine.specs.NearRows.{StaysFrom}
use Rattle.ch_engine.specs.NearTable.{AreCellsAt, places_of}
use Rattle.ch_engine.proofs.engine.Engine.write_cells.Given as goal

abbrev pub invariant-loop-i : goal.invariant-loop-i
invariant-loop-i l = record {
  same : l.self ≡ l.fn.self;
  long : length l.cells ≡ length l.fn.cells;
  here : l.begin ≡ l.i * places_of l.fn.self.near;
  behind : StaysFrom l.begin l.fn.cells l.cells;
  written : (k : ℕ) → k < l.i → AreCellsAt l.fn.self (slice_index l.sources k) (k * places_of l.fn.self.near) l.cells;
}
