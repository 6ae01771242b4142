-- Once all keys are past the least sum, it is the cost of the meet, or the two nodes never meet.
use Rattle.std.proofs.Common.{refl, arith}
use Rattle.ch_query.proofs.two_sides.LeastMeeting.{meeting_least}
use Rattle.ch_query.proofs.two_sides.MeetingSteps.{begun_meeting}
use Rattle.ch_query.proofs.sides.meeting.meet.Goals as goal

pub loop-ups-init : goal.loop-ups-init
loop-ups-init c = begun_meeting _ _ _ _ _ (c.begin.ensures.underway _ refl (omega arith)) (c.begin-2.ensures.underway _ refl (omega arith))
    c.begin.ensures.fresh

pub returns-clause-least : goal.returns-clause-least
returns-clause-least c =
    let e = c.step.ensures in
    let past = e.stopped c.loop-ups-test.false in
    meeting_least c.args.hierarchy.now c.requires.kept c.args.start c.args.end c.step.new.up c.step.new.down c.step.new.least e.meeting
    past.0 past.1
