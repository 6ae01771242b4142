-- The pairs are those of the trees before the current one.
use Rattle.std.proofs.Common.{map}
use Rattle.ch_flows.specs.Meetings.{ArePairs, kept_of}
use Rattle.ch_flows.proofs.meeting.stops_of.Given as goal

abbrev pub invariant-loop-c : goal.invariant-loop-c
invariant-loop-c l = ArePairs (map kept_of l.trees) l.c l.pairs.items
