-- What was served before is served further with each turn, and no call of a device has failed.
use Rattle.std.proofs.Common.{◌≡◌, [], length}
use Rattle.ch_run.specs.Ask.{Situation}
use Rattle.ch_run.specs.Serving.{HasServed, IsRoomFor, places_of, rules_by, situation_of}
use Rattle.ch_run.proofs.run.serving.serve_in.Given as goal

abbrev pub invariant-loop : goal.invariant-loop
invariant-loop g l = record {
  buffer : length l.buffer ≡ length l.initial.buffer;
  kept : IsRoomFor l.by.options.now.direction l.by.checked.now l.room;
  nodes : l.stream.reader.nodes ≡ l.initial.stream.reader.nodes;
  served : (start : g.row.J.Denot) (first : Situation) (old : g.row.O.Denot) →
      HasServed (rules_by l.by) g.J.Input.read_gives start l.initial.requests g.O.Output.write_gives l.by.checked.now.graph.nodes
      l.initial.stream.ended l.initial.stream.reader [] first old l.initial.output
      (situation_of l.by.checked.now (places_of l.initial.room.near)) l.initial.stream.written →
      HasServed (rules_by l.by) g.J.Input.read_gives start l.requests g.O.Output.write_gives l.by.checked.now.graph.nodes
      l.stream.ended l.stream.reader [] first old l.output (situation_of l.by.checked.now (places_of l.room.near)) l.stream.written;
  reads : g.J.Input.failed l.requests ≡ g.J.Input.failed l.initial.requests;
}
