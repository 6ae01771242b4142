-- The places that are still listed have offers, and the others' offers are in the row; each turn takes one place off the list.
use Rattle.std.proofs.Common.{vec_len}
use Rattle.ch_rows.specs.Offers.{AreListed}
use Rattle.ch_rows.proofs.Takings.{AreOut}
use Rattle.ch_rows.proofs.offers.Offers.take.Given as goal

abbrev pub invariant-loop-place : goal.invariant-loop-place
invariant-loop-place l = record {
  listed : AreListed l.self-inside.least.items l.self-inside.places.items;
  out : AreOut l.fn.self l.self-inside.least.items l.row.items;
}

abbrev pub decreases-loop-place : goal.decreases-loop-place
decreases-loop-place l = vec_len l.self-inside.places
