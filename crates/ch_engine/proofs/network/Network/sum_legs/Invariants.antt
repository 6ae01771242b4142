-- The legs before the current one have their words.
use Rattle.std.proofs.Common.{◌≡◌, ◌<◌, ℕ, length, slice_index}
use Rattle.ch_hierarchy.specs.Rows.{row}
use Rattle.ch_hierarchy.specs.Side.{rows_of}
use Rattle.ch_engine.specs.LegSums.{IsLegWord, leg_on}
use Rattle.ch_engine.proofs.network.Network.sum_legs.Given as goal

abbrev pub invariant-loop-k : goal.invariant-loop-k
invariant-loop-k l = record {
  long : length l.row.items ≡ l.k;
  words : (m : ℕ) → m < l.k → IsLegWord l.side l.self.0 l.self.1 l.values l.node (leg_on (row (rows_of l.self.0 l.side) l.node) m)
      (slice_index l.row.items m);
}
