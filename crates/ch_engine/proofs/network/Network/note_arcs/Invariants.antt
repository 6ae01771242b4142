-- The arcs before the current one have their lines from the given place on, and all other places are as before.
use Rattle.std.proofs.Common.{◌≡◌, ◌≢◌, ◌+◌, ◌<◌, ℕ, length, slice_index, slice_index_or}
use Rattle.ch_graph.specs.declared.arc.InArc.{InArc}
use Rattle.ch_engine.specs.Lines.{IsLineBy}
use Rattle.ch_engine.specs.NearRows.{StaysFrom}
use Rattle.ch_engine.proofs.network.Network.note_arcs.Given as goal

abbrev pub invariant-loop-j : goal.invariant-loop-j
invariant-loop-j l = record {
  long : length l.lines ≡ length l.fn.lines;
  lined : (j : ℕ) (d : InArc) → j < l.j → (slice_index_or l.arcs j d).from ≢ (slice_index_or l.arcs j d).to →
      IsLineBy l.self.0 l.self.1 (slice_index_or l.arcs j d).from (slice_index_or l.arcs j d).to (slice_index l.lines (l.begin + j));
  before : (k : ℕ) → k < l.begin → slice_index l.lines k ≡ slice_index l.fn.lines k;
  behind : StaysFrom (l.begin + length l.arcs) l.fn.lines l.lines;
}
