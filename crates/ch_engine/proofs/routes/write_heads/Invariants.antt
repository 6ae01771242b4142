-- The ends of the arcs before the current one are written from the given place on, and all other places are as before.
use Rattle.std.proofs.Common.{◌≡◌, ◌+◌, ◌<◌, ℕ, length, slice_index}
use Rattle.ch_engine.specs.NearRows.{StaysFrom}
use Rattle.ch_engine.specs.Routes.{heads_of}
use Rattle.ch_engine.proofs.routes.write_heads.Given as goal

abbrev pub invariant-loop-j : goal.invariant-loop-j
invariant-loop-j l = record {
  long : length l.nodes ≡ length l.fn.nodes;
  holds : (j : ℕ) → j < l.j → slice_index l.nodes (l.begin + j) ≡ slice_index (heads_of l.arcs) j;
  before : (k : ℕ) → k < l.begin → slice_index l.nodes k ≡ slice_index l.fn.nodes k;
  behind : StaysFrom (l.begin + length l.arcs) l.fn.nodes l.nodes;
}
