-- The parts before the current one are written, and no write has failed.
use Rattle.std.proofs.Common.{◌≡◌, length, take}
use Rattle.ch_read.specs.Reading.{capped_number}
use Rattle.ch_text.specs.Moves.{Took}
use Rattle.ch_run.proofs.Parts.{bytes_of}
use Rattle.ch_run.proofs.run.output.write_parts.Given as goal

-- the first parts are written
abbrev pub invariant-loop-part : goal.invariant-loop-part
invariant-loop-part g l = record {
  taken : Took g.O.Output.write_gives l.initial.output (bytes_of (take l.part-index l.parts)) l.output;
  written : l.written ≡ capped_number (length (bytes_of (take l.part-index l.parts)));
  failed : g.O.Output.failed l.output ≡ g.O.Output.failed l.initial.output;
  idle : g.O.Output.idle l.output ≡ g.O.Output.idle l.initial.output;
}
