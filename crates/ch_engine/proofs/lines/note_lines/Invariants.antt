-- Each word is the best of the lines before the current one for its leg, or none.
use Rattle.std.proofs.Common.{◌≡◌, ◌<◌, ℕ, length, slice_index}
use Rattle.ch_engine.specs.Lines.{IsLineWord, IsSeen, node_at}
use Rattle.ch_engine.proofs.lines.note_lines.Given as goal

abbrev pub invariant-loop-i : goal.invariant-loop-i
invariant-loop-i l = record {
  long : length l.row ≡ length l.legs;
  each : (k : ℕ) → k < length l.legs → IsLineWord l.arcs (IsSeen l.arcs l.side l.seen l.i (node_at l.legs k)) (slice_index l.row k);
}
