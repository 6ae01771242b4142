-- The row is shortened over the pairs before this place.
use Rattle.ch_custom.specs.Exact.{AreShortenedOver}
use Rattle.ch_custom.proofs.exact.shorten_over_all.Given as goal

abbrev pub invariant-loop-place : goal.invariant-loop-place
invariant-loop-place l = AreShortenedOver l.graph l.node l.metric l.place l.fn.row l.row
