-- The pairs before the current one have their sums.
use Rattle.std.proofs.Common.{◌≡◌, ◌<◌, ℕ, length, slice_index}
use Rattle.ch_engine.specs.NearSums.{IsNearSum, pair_at}
use Rattle.ch_engine.proofs.engine.Engine.pair_sums.Given as goal

abbrev pub invariant-loop-j : goal.invariant-loop-j
invariant-loop-j l = record {
  same : l.self ≡ l.fn.self;
  long : length l.found.items ≡ l.j;
  sums : (i : ℕ) → i < l.j → IsNearSum l.fn.self l.source (pair_at l.row i).1 (pair_at l.row i).0 (slice_index l.found.items i);
}
