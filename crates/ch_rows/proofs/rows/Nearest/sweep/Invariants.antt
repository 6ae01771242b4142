-- The ranks before the current one have their near rows, and no offer is left.
use Rattle.std.proofs.Common.{length}
use Rattle.ch_rows.specs.Offers.{AreUnoffered}
use Rattle.ch_rows.specs.Sweep.{AreRowsTo}
use Rattle.ch_rows.proofs.rows.Nearest.sweep.Given as goal

abbrev pub invariant-loop-rank : goal.invariant-loop-rank
invariant-loop-rank l = record {
  rows : AreRowsTo l.self l.rank l.rows;
  offers : AreUnoffered (length l.self.targets) l.offers;
}
