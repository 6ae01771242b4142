-- The sources before the current one have a sum for each limit, and what is behind these sums is as before.
use Rattle.std.proofs.Common.{◌≡◌, ◌*◌, ◌<◌, ℕ, length, slice_index}
use Rattle.ch_engine.specs.NearRows.{StaysFrom}
use Rattle.ch_engine.specs.Sums.{AreSumsOf}
use Rattle.ch_engine.proofs.engine.Engine.write_sums.Given as goal

abbrev pub invariant-loop-i : goal.invariant-loop-i
invariant-loop-i l = record {
  same : l.self ≡ l.fn.self;
  long : length l.sums ≡ length l.fn.sums;
  wide : length l.found ≡ length l.limits;
  here : l.begin ≡ l.i * length l.limits;
  behind : StaysFrom l.begin l.fn.sums l.sums;
  summed : (k : ℕ) → k < l.i → AreSumsOf l.fn.self l.values l.limits (slice_index l.sources k) (k * length l.limits) l.sums;
}
