-- The others before this place are in the row.
use Rattle.ch_custom.proofs.theory.Unions.{IsUnionTo}
use Rattle.ch_custom.proofs.pairs.merge_into.Given as goal

abbrev pub invariant-loop-place : goal.invariant-loop-place
invariant-loop-place l = IsUnionTo l.fn.row.items l.others l.without l.place l.next l.row.items
