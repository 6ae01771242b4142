-- The reader gave the requests so far, and there are at most as many of them as turns.
use Rattle.std.proofs.Common.{◌≡◌, ◌≤◌, All, length, map}
use Rattle.ch_read.specs.declared.request.Asked.TheVariants.{Request as Asks}
use Rattle.ch_read.specs.Requests.{Gives, IsRequest}
use Rattle.ch_run.proofs.run.batch.gather.Given as goal

-- the requests so far were given, and there are at most as many of them as turns
abbrev pub invariant-loop : goal.invariant-loop
invariant-loop l = record {
  nodes : l.reader.nodes ≡ l.initial.reader.nodes;
  given : Gives l.ended l.initial.reader l.reader (map Asks l.requests.items);
  each : All (IsRequest l.initial.reader.nodes) l.requests.items;
  few : length l.requests.items ≤ l.counter;
}
