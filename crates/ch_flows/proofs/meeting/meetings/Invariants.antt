-- The entries before the current one are met.
use Rattle.std.proofs.Common.{◌≡◌, ℕ, List, length, All}
use Rattle.ch_flows.specs.declared.tree.Mark.{Mark as AnyMark}
use Rattle.ch_flows.specs.Meetings.{AreMeetings, AreStops}
use Rattle.ch_flows.specs.Trees.{AreMarksInOrder}
use Rattle.ch_flows.proofs.meeting.meetings.Given as goal

abbrev pub invariant-loop-k : goal.invariant-loop-k
invariant-loop-k l = record {
  long : length l.meetings.items ≡ l.trees;
  met : (lists : List (List (ℕ × AnyMark))) → length lists ≡ l.trees → AreMarksInOrder l.kept → All AreMarksInOrder lists →
      AreStops l.stops lists →
      AreMeetings l.kept lists l.k l.meetings.items;
}
