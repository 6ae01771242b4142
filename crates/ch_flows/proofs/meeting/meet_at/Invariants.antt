-- The trees of the stops before the current one are met.
use Rattle.std.proofs.Common.{◌≡◌, ◌<◌, ℕ, List, length, All}
use Rattle.std.specs.Prelude.{slice_index_or}
use Rattle.ch_flows.specs.declared.tree.Mark.{Mark as AnyMark}
use Rattle.ch_flows.specs.declared.meeting.Meeting.{Meeting as AnyMeeting}
use Rattle.ch_flows.specs.Meetings.{AreMeetings, AreStopsAt, IsMetBefore, list_at}
use Rattle.ch_flows.specs.Trees.{AreMarksInOrder, mark_at}
use Rattle.ch_flows.proofs.meeting.meet_at.Given as goal

abbrev pub invariant-loop-j : goal.invariant-loop-j
invariant-loop-j l = record {
  long : length l.meetings ≡ length l.fn.meetings;
  met : (ups : List (ℕ × AnyMark)) (lists : List (List (ℕ × AnyMark))) (n node : ℕ) → n < length ups → mark_at ups n ≡ (node, l.mark) →
      length lists ≡ length l.fn.meetings → AreMarksInOrder ups → All AreMarksInOrder lists → AreStopsAt lists node l.stops →
      AreMeetings ups lists n l.fn.meetings → (c : ℕ) → c < length lists →
      IsMetBefore ups (list_at lists c) n l.stops l.j c (slice_index_or l.meetings c AnyMeeting.Unknown);
}
