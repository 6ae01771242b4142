-- The stops before the current one are met.
use Rattle.std.proofs.Common.{◌≡◌, ℕ, List, length}
use Rattle.ch_hierarchy.specs.Hierarchy.{LevelsAndLegs}
use Rattle.ch_hierarchy.specs.declared.side.Side.TheVariants.{Up}
use Rattle.ch_engine.specs.Lines.{Lines}
use Rattle.ch_engine.specs.TableSums.{AreOffers, AreStopsOf, CoverStops, IsBranch, KeepsCovers}
use Rattle.ch_engine.proofs.sum_meets.meet_stops.Given as goal

abbrev pub invariant-loop-j : goal.invariant-loop-j
invariant-loop-j l = record {
  long : length l.row ≡ length l.fn.row;
  keeps : KeepsCovers l.fn.row l.row;
  covers : CoverStops l.branch.node l.branch.cost l.stops l.j l.row;
  offers : (H : LevelsAndLegs) (lines : Lines) (values targets : List ℕ) (s : ℕ) → length targets ≡ length l.fn.row →
      IsBranch Up H lines values s l.branch.node l.branch.cost l.branch.sum → AreStopsOf H lines values targets l.branch.node l.stops →
      AreOffers H lines values s targets l.fn.row → AreOffers H lines values s targets l.row;
}
