-- The text has the answers to the queries before the current place.
use Rattle.std.proofs.Common.{take}
use Rattle.ch_text.specs.Distances.{IsDistanceText}
use Rattle.ch_run.proofs.run.texts.plain_text.Given as goal

abbrev pub invariant-loop-place : goal.invariant-loop-place
invariant-loop-place g l = IsDistanceText l.graph (take l.place l.queries) l.text.items
