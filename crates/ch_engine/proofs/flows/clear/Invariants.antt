-- All places before the current one have 0.
use Rattle.std.proofs.Common.{◌≡◌, ◌<◌, ℕ, length, get_or}
use Rattle.ch_engine.proofs.flows.clear.Given as goal

abbrev pub invariant-loop-i : goal.invariant-loop-i
invariant-loop-i l = record {
  long : length l.out ≡ length l.fn.out;
  none : (k d : ℕ) → k < l.i → get_or l.out k d ≡ 0;
}
