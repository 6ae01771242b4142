-- The branches behind the current one have handed on what they held, and nothing is lost.
use Rattle.std.proofs.Common.{◌≡◌, ◌+◌, ◌<◌, ◌≤◌, ℕ, length, slice_index}
use Rattle.ch_flows.specs.Gathering.{gathered}
use Rattle.ch_flows.specs.Handing.{weighed}
use Rattle.ch_flows.proofs.gathering.hand_on.Given as goal

abbrev pub invariant-loop-i : goal.invariant-loop-i
invariant-loop-i l = record {
  long : length l.flows ≡ length l.fn.flows;
  held : length l.held ≡ length l.fn.held;
  kept : (share : ℕ → ℕ) → weighed share l.flows + gathered share l.branches l.held
      ≡ weighed share l.fn.flows + gathered share l.branches l.fn.held;
  none : (k : ℕ) → length l.branches ≤ k + l.i → k < length l.branches → slice_index l.held k ≡ 0;
}
