-- The sums with the entries before the current one are offered.
use Rattle.std.proofs.Common.{take}
use Rattle.ch_rows.specs.Offers.{AreOffered}
use Rattle.ch_rows.specs.Sums.{IsSum}
use Rattle.ch_rows.proofs.sums.offer_row.Given as goal

abbrev pub invariant-loop-rest : goal.invariant-loop-rest
invariant-loop-rest l = AreOffered (IsSum l.within l.weight (take l.rest-index l.bucket)) l.fn.offers l.offers
