-- The row is shortened with the first of the others, whose later ones have greater nodes than the pairs before the place.
use Rattle.std.proofs.Common.{ℕ, ◌<◌, ◌≤◌, length, get_or}
use Rattle.ch_custom.specs.declared.leg_pair.LegPair.{LegPair}
use Rattle.ch_custom.specs.Exact.{IsShortenedOver}
use Rattle.ch_custom.proofs.exact.shorten_over.Given as goal

abbrev pub invariant-loop-next : goal.invariant-loop-next
invariant-loop-next l = record {
  over : IsShortenedOver l.graph l._node l.place l.others l.next l.fn.row l.row;
  within : l.far ≤ length l.fn.row;
  less : (k j : ℕ) (d e : LegPair) → l.next ≤ k → k < length l.others → j < l.far → j < length l.fn.row →
      (get_or l.fn.row j d).node < (get_or l.others k e).node;
}
