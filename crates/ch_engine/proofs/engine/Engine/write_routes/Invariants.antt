-- The routes before the current pair are in the arrays, one after the other, and what is behind them is as before.
use Rattle.std.proofs.Common.{◌≡◌, ◌<◌, ◌≤◌, ℕ, length, slice_index}
use Rattle.ch_engine.specs.NearRows.{StaysFrom, begin_of}
use Rattle.ch_engine.specs.Routes.{AreRoutesAt}
use Rattle.ch_engine.proofs.engine.Engine.write_routes.Given as goal

abbrev pub invariant-loop-i : goal.invariant-loop-i
invariant-loop-i l = record {
  same : l.self ≡ l.fn.self;
  weighed : length l.weights ≡ length l.fn.weights;
  as_many : length l.ends ≡ length l.fn.ends;
  long : length l.nodes ≡ length l.fn.nodes;
  wide : length l.lines ≡ length l.fn.lines;
  here : l.begin ≡ begin_of l.ends l.i;
  low : (k : ℕ) → k < l.i → slice_index l.ends k ≤ l.begin;
  fits : l.begin ≤ length l.nodes;
  rest : StaysFrom l.i l.fn.weights l.weights × StaysFrom l.i l.fn.ends l.ends;
  behind : StaysFrom l.begin l.fn.nodes l.nodes × StaysFrom l.begin l.fn.lines l.lines;
  routes : AreRoutesAt l.fn.self l.sources l.targets l.weights l.ends l.nodes l.lines l.i;
}
