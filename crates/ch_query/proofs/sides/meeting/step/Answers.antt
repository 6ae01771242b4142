-- Whichever side leads, the two sides may be exchanged, and if its keys are past the least sum, those of both sides are.
use Rattle.ch_query.proofs.two_sides.MeetingSteps.{swapped, both_stopped}
use Rattle.ch_query.proofs.sides.meeting.step.Goals as goal

pub advance-requires : goal.advance-requires
advance-requires c = record { meeting = (_, c.requires.meeting) }

pub advance-requires-else-leads : goal.advance-requires-else-leads
advance-requires-else-leads c = record { meeting = (_, swapped _ _ _ _ _ _ c.requires.meeting) }

pub returns-then-leads-clause-meeting : goal.returns-then-leads-clause-meeting
returns-then-leads-clause-meeting c = c.advance.ensures.meeting _ c.requires.meeting

pub returns-then-leads-clause-stopped : goal.returns-then-leads-clause-stopped
returns-then-leads-clause-stopped c =
    λ stop. both_stopped c.args.up.now _ c.args.down.now _ _ (c.leads.ensures.here c.if-leads.true) (c.advance.ensures.stopped stop)

pub returns-else-leads-clause-meeting : goal.returns-else-leads-clause-meeting
returns-else-leads-clause-meeting c =
    swapped _ _ _ _ _ _ (c.advance-else-leads.ensures.meeting _ (swapped _ _ _ _ _ _ c.requires.meeting))

pub returns-else-leads-clause-stopped : goal.returns-else-leads-clause-stopped
returns-else-leads-clause-stopped c =
    λ stop. let past = both_stopped c.args.down.now _ c.args.up.now _ _ (c.leads.ensures.there c.if-leads.false)
    (c.advance-else-leads.ensures.stopped stop) in (past.1, past.0)
