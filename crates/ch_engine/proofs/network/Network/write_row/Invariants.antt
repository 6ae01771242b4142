-- The cells before the current one have their weights and sums, and all else is as before.
use Rattle.std.proofs.Common.{◌≡◌, ◌+◌, ◌<◌, ℕ, length, slice_index}
use Rattle.ch_engine.specs.Held.{only}
use Rattle.ch_engine.specs.NearRows.{StaysFrom}
use Rattle.ch_engine.specs.TableSums.{AreRowSums}
use Rattle.ch_engine.proofs.network.Network.write_row.Given as goal

abbrev pub invariant-loop-c : goal.invariant-loop-c
invariant-loop-c l = record {
  scratch : l.scratch ≡ l.fn.scratch;
  weighed : length l.weights ≡ length l.fn.weights;
  long : length l.sums ≡ length l.fn.sums;
  cells : AreRowSums (only l.self.0 l.self.1) l.table.kept.now.values.items l.fn.start.source l.table.targets.now l.fn.start.first
      l.weights l.sums l.c;
  before : (k : ℕ) → k < l.fn.start.first →
      (slice_index l.weights k ≡ slice_index l.fn.weights k) × (slice_index l.sums k ≡ slice_index l.fn.sums k);
  behind : StaysFrom (l.fn.start.first + l.c) l.fn.weights l.weights × StaysFrom (l.fn.start.first + l.c) l.fn.sums l.sums;
}
