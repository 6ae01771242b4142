-- Both searches are meeting, and each turn settles one more node.
use Rattle.std.proofs.Common.{◌+◌}
use Rattle.ch_query.specs.Underway.{count_unsettled_in}
use Rattle.ch_query.specs.Meeting.{AreMeeting}
use Rattle.ch_query.proofs.checking.covering.meets_within.Given as goal

abbrev pub invariant-loop-ups : goal.invariant-loop-ups
invariant-loop-ups l = AreMeeting l.hierarchy l.ups l.downs l.up l.down l.least

abbrev pub decreases-loop-ups : goal.decreases-loop-ups
decreases-loop-ups l = count_unsettled_in l.hierarchy l.up + count_unsettled_in l.hierarchy l.down
