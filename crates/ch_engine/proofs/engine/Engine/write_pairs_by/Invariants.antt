-- The pairs before the current one have their weights and the sums along their routes, what is behind is as before, and the
-- trees stay.
use Rattle.std.specs.Prelude.{MatchOption, ⊤}
use Rattle.std.proofs.Common.{◌≡◌, ◌<◌, ℕ, length, slice_index}
use Rattle.ch_engine.specs.NearRows.{StaysFrom}
use Rattle.ch_engine.specs.PlaceTrees.{ArePairTrees}
use Rattle.ch_engine.specs.RouteSums.{IsPairSum}
use Rattle.ch_engine.proofs.engine.Engine.write_pairs_by.Given as goal

abbrev pub invariant-loop-i : goal.invariant-loop-i
invariant-loop-i l = record {
  trees : MatchOption l.trees ⊤ (ArePairTrees l.fn.self.hierarchy l.fn.self.lines l.values);
  same : l.self ≡ l.fn.self;
  weighed : length l.weights ≡ length l.fn.weights;
  long : length l.sums ≡ length l.fn.sums;
  behind : StaysFrom l.i l.fn.weights l.weights × StaysFrom l.i l.fn.sums l.sums;
  summed : (k : ℕ) → k < l.i → IsPairSum l.fn.self l.values (slice_index l.sources k) (slice_index l.targets k)
      (slice_index l.weights k) (slice_index l.sums k);
}
