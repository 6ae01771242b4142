-- The first requests are answered and no write has failed, and each turn leaves fewer requests.
use Rattle.std.proofs.Common.{◌≤◌, ◌++◌, All, Bool, List, Ok, length, map}
use Rattle.ch_graph.specs.declared.limits.TheConstants.{MOST_LISTED}
use Rattle.ch_read.specs.declared.request.Asked.{Asked}
use Rattle.ch_read.specs.declared.request.Asked.TheVariants.{Request as Asks}
use Rattle.ch_read.specs.Requests.{IsRequest, Standing}
use Rattle.ch_run.specs.Serving.{GoesOn, IsRoomFor, places_of, rules_by, situation_of}
use Rattle.ch_run.proofs.run.answering.answer_requests.Given as goal

-- the first of the requests are answered, and the rest are left
abbrev pub invariant-loop-rest : goal.invariant-loop-rest
invariant-loop-rest g l = record {
  room : IsRoomFor l.by.options.now.direction l.by.checked.now l.room;
  each : All (IsRequest l.by.checked.now.graph.nodes) l.rest;
  few : length l.rest ≤ MOST_LISTED;
  answers : (ended : Bool) (reader : Standing) (later : List Asked) → GoesOn {T = Unit} (rules_by l.by) g.O.Output.write_gives
      l.by.checked.now.graph.nodes ended reader reader (map Asks l.requests ++ later) (λ done. map Asks l.rest ++ later)
      l.initial.output l.output (situation_of l.by.checked.now (places_of l.initial.room.near))
      (situation_of l.by.checked.now (places_of l.room.near)) l.initial.written l.written (Ok tt);
}

abbrev pub decreases-loop-rest : goal.decreases-loop-rest
decreases-loop-rest g l = length l.rest
