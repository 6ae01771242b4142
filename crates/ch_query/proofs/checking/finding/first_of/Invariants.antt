-- The ranges before the current one have no number, so the first number of the rest is the first of all.
use Rattle.std.proofs.Common.{◌≡◌, drop}
use Rattle.ch_query.specs.Finding.{first_some}
use Rattle.ch_query.proofs.checking.finding.first_of.Given as goal

abbrev pub invariant-loop-item : goal.invariant-loop-item
invariant-loop-item l = first_some l.known ≡ first_some (drop l.item-index l.known)
