-- The reader gave the requests so far, all of them are answered, and no write has failed.
use Rattle.std.proofs.Common.{◌≡◌, [], Ok}
use Rattle.ch_run.specs.Serving.{GoesOn, IsRoomFor, places_of, rules_by, situation_of}
use Rattle.ch_run.proofs.run.serving.answer_whole.Given as goal

-- the requests so far were given, and all of them are answered
abbrev pub invariant-loop : goal.invariant-loop
invariant-loop g l = record {
  nodes : l.stream.reader.nodes ≡ l.initial.stream.reader.nodes;
  ended : l.stream.ended ≡ l.initial.stream.ended;
  room : IsRoomFor l.by.options.now.direction l.by.checked.now l.room;
  answered : GoesOn {T = Unit} (rules_by l.by) g.O.Output.write_gives l.by.checked.now.graph.nodes l.initial.stream.ended
      l.initial.stream.reader l.stream.reader [] (λ done. []) l.initial.output l.output
      (situation_of l.by.checked.now (places_of l.initial.room.near)) (situation_of l.by.checked.now (places_of l.room.near))
      l.initial.stream.written l.stream.written (Ok tt);
}
