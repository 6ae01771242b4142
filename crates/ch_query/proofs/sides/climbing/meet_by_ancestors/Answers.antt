-- Both searches have no keys, so the least sum is the cost of the meet, or the two nodes never meet.
use Rattle.ch_query.proofs.two_sides.LeastMeeting.{meeting_least}
use Rattle.ch_query.proofs.sides.climbing.meet_by_ancestors.Goals as goal

pub least_met-requires-clause-up : goal.least_met-requires-clause-up
least_met-requires-clause-up c = ((_, c.climb.ensures.underway), c.climb.ensures.unqueued)

pub least_met-requires-clause-down : goal.least_met-requires-clause-down
least_met-requires-clause-down c = (_, c.climb-2.ensures.underway)

pub returns-clause-meeting : goal.returns-clause-meeting
returns-clause-meeting c = c.least_met.ensures _ _ c.climb.ensures.underway c.climb-2.ensures.underway

pub returns-clause-past : goal.returns-clause-past
returns-clause-past c = (
  (λ v d key. absurd (c.climb.ensures.unqueued.queue v d key)),
  (λ v d key. absurd (c.climb-2.ensures.unqueued.queue v d key)),
)

pub returns-clause-least : goal.returns-clause-least
returns-clause-least c =
    let up = c.climb.ensures in
    let down = c.climb-2.ensures in
    meeting_least c.args.hierarchy.now c.requires.kept c.args.start c.args.end c.climb.new.self c.climb-2.new.self c.least_met.result
    (c.least_met.ensures _ _ up.underway down.underway)
    (λ v d key. absurd (up.unqueued.queue v d key)) (λ v d key. absurd (down.unqueued.queue v d key))
