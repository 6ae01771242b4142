-- The least load so far has a place.
use Rattle.std.proofs.Common.{◌<◌, length}
use Rattle.ch_custom.proofs.parts.least_loaded.Given as goal

abbrev pub invariant-loop-place : goal.invariant-loop-place
invariant-loop-place l = l.least < length l.loads
