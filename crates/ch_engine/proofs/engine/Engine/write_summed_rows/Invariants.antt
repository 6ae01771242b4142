-- The near rows before the current source are in the arrays with their sums, one after the other, and what is behind them is as
-- before.
use Rattle.std.proofs.Common.{◌≡◌, ◌<◌, ◌≤◌, ℕ, length, slice_index}
use Rattle.ch_engine.specs.NearRows.{StaysFrom, begin_of}
use Rattle.ch_engine.specs.NearSums.{AreSummedRowsAt}
use Rattle.ch_engine.proofs.engine.Engine.write_summed_rows.Given as goal

abbrev pub invariant-loop-i : goal.invariant-loop-i
invariant-loop-i l = record {
  same : l.self ≡ l.fn.self;
  as_many : length l.ends ≡ length l.fn.ends;
  long : length l.weights ≡ length l.fn.weights;
  wide : length l.places ≡ length l.fn.places;
  summed : length l.sums ≡ length l.fn.sums;
  here : l.begin ≡ begin_of l.ends l.i;
  low : (k : ℕ) → k < l.i → slice_index l.ends k ≤ l.begin;
  fits : l.begin ≤ length l.weights;
  rest : StaysFrom l.i l.fn.ends l.ends;
  weights_behind : StaysFrom l.begin l.fn.weights l.weights;
  places_behind : StaysFrom l.begin l.fn.places l.places;
  sums_behind : StaysFrom l.begin l.fn.sums l.sums;
  rows : AreSummedRowsAt l.fn.self l.sources l.ends l.weights l.places l.sums l.i;
}
