-- The sums over the legs before the current one are offered.
use Rattle.std.proofs.Common.{map, take}
use Rattle.ch_rows.specs.Offers.{AreOffered}
use Rattle.ch_rows.specs.Sums.{IsSumOf}
use Rattle.ch_rows.specs.Sweep.{entry_of_leg}
use Rattle.ch_rows.proofs.sweep.offer_legs.Given as goal

abbrev pub invariant-loop-leg : goal.invariant-loop-leg
invariant-loop-leg l = AreOffered (IsSumOf l.within (take l.leg-index (map entry_of_leg l.legs)) l.rows) l.fn.offers l.offers
