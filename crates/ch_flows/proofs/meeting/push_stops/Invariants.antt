-- The entries before the current one are appended.
use Rattle.std.proofs.Common.{◌≡◌, ◌++◌, take}
use Rattle.ch_graph.specs.Rows.{pairs_at}
use Rattle.ch_flows.proofs.meeting.push_stops.Given as goal

abbrev pub invariant-loop-node : goal.invariant-loop-node
invariant-loop-node l = l.pairs.items ≡ l.fn.pairs.items ++ pairs_at l.place (take l.node-index l.kept)
