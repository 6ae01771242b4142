-- The way over the branches where both meet is that of the route, and where they do not meet there is none.
use Rattle.std.proofs.Common.{length, subst}
use Rattle.ch_flows.specs.Meetings.{IsMeetingSoFar}
use Rattle.ch_flows.proofs.FoundWays.{found_between, found_nowhere}
use Rattle.ch_flows.proofs.meeting.way_between.Goals as goal

pub returns-in-Nowhere : goal.returns-in-Nowhere
returns-in-Nowhere c = λ H links parts row columns ups downs kept plan row_are columns_are up down so.
    found_nowhere H links parts row columns ups downs kept plan row_are columns_are up down
    (subst (IsMeetingSoFar ups.kept.items downs.kept.items (length ups.kept.items)) c.in-Nowhere.is so)

pub returns : goal.returns
returns c = λ H links parts row columns ups downs kept plan row_are columns_are up down so.
    found_between H links parts row columns ups downs kept plan row_are columns_are up down c.in-At.meet c.in_ok-up.up c.in_ok-down.down
    (subst (IsMeetingSoFar ups.kept.items downs.kept.items (length ups.kept.items)) c.in-At.is so) c.in_ok-up.was c.in_ok-down.was
