-- The searches that were meeting with the first sum are meeting with the lowered one.
use Rattle.ch_query.specs.Meeting.{AreMeeting}
use Rattle.ch_query.specs.declared.question.Question.{Question}
use Rattle.ch_query.proofs.sides.meeting.look_ahead.Given as goal

abbrev pub invariant-loop-leg : goal.invariant-loop-leg
invariant-loop-leg l = (other : Question) → AreMeeting l.hierarchy l.fn.question other l.here l.there l.fn.least →
    AreMeeting l.hierarchy l.fn.question other l.here l.there l.lowered
