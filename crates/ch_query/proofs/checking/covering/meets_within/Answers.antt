-- A sum within the bound shows a way, and searches that are past their sum show that there is none.
use Rattle.std.proofs.Common.{refl}
use Rattle.ch_query.proofs.one_side.Spreads.{underway_room}
use Rattle.ch_query.proofs.two_sides.ConnectedSearches.{within_covers}
use Rattle.ch_query.proofs.two_sides.MeetingSteps.{begun_meeting}
use Rattle.ch_query.proofs.checking.covering.meets_within.Goals as goal

pub loop-ups-init : goal.loop-ups-init
loop-ups-init c = begun_meeting _ _ _ _ _ (c.begin.ensures.underway _ refl c.most_within.ensures.limits)
    (c.begin-2.ensures.underway _ refl c.most_within.ensures.limits) c.begin.ensures.fresh

pub clean-requires : goal.clean-requires
clean-requires c = record { room = underway_room _ _ _ c.step_within.ensures.meeting.here }

pub clean-requires-2 : goal.clean-requires-2
clean-requires-2 c = record { room = underway_room _ _ _ c.step_within.ensures.meeting.there }

pub returns-clause-covered : goal.returns-clause-covered
returns-clause-covered c =
    let e = c.step_within.ensures in
    within_covers c.args.hierarchy.now c.args.start c.args.end _ c.args.most c.most_within.ensures _ _ _ e.meeting
    c.is_within.result c.is_within.ensures (e.stopped c.loop-ups-test.false)
