-- The branches before the current one are met.
use Rattle.std.proofs.Common.{◌≡◌, ℕ, List, length}
use Rattle.ch_hierarchy.specs.Hierarchy.{LevelsAndLegs}
use Rattle.ch_hierarchy.specs.declared.side.Side.TheVariants.{Up}
use Rattle.ch_engine.specs.Lines.{Lines}
use Rattle.ch_engine.specs.TableSums.{AreBranches, AreOffers, AreStops, CoverBranches}
use Rattle.ch_engine.proofs.sum_meets.meet_branches.Given as goal

abbrev pub invariant-loop-i : goal.invariant-loop-i
invariant-loop-i l = record {
  long : length l.row ≡ length l.fn.row;
  covers : CoverBranches l.branches l.i l.stops.slots.now.names l.stops.rows l.row;
  offers : (H : LevelsAndLegs) (lines : Lines) (values targets : List ℕ) (s : ℕ) → length targets ≡ length l.fn.row →
      AreBranches Up H lines values s l.branches → AreStops H lines values targets l.stops.slots.now.names l.stops.rows →
      AreOffers H lines values s targets l.fn.row → AreOffers H lines values s targets l.row;
}
