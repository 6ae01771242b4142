-- All that was given is answered, and the weights of the present graph hold from here on.
use Rattle.std.proofs.Common.{◌≡◌, [], length}
use Rattle.std.specs.Prelude.{IfSome}
use Rattle.ch_read.specs.Requests.{ArePlaces}
use Rattle.ch_run.specs.Ask.{no_places}
use Rattle.ch_run.specs.Serving.{HasServed, places_kept, rules_in, situation_of}
use Rattle.ch_run.proofs.run.serving.serve_all.Given as goal

abbrev pub invariant-loop : goal.invariant-loop
invariant-loop g l = record {
  buffer : length l.buffer ≡ length l.initial.buffer;
  frame : l.current.frame ≡ l.fn.checked.frame;
  graph : l.current.graph.nodes ≡ l.fn.checked.graph.nodes;
  nodes : l.stream.reader.nodes ≡ l.fn.checked.graph.nodes;
  kept : IfSome l.kept (ArePlaces l.fn.checked.graph.nodes);
  served : HasServed (rules_in l.options l.fn.checked.frame) g.J.Input.read_gives l.initial.requests l.requests
      g.O.Output.write_gives l.fn.checked.graph.nodes l.stream.ended l.stream.reader [] (situation_of l.fn.checked no_places)
      l.initial.output l.output (situation_of l.current (places_kept l.kept)) l.stream.written;
  reads : g.J.Input.failed l.requests ≡ g.J.Input.failed l.initial.requests;
}
