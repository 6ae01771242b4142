-- The leg into the node is covered together with each leg up before the current one, and both sides are clean.
use Rattle.std.proofs.Common.{◌≡◌, ℕ, ◌<◌, get_or}
use Rattle.ch_hierarchy.specs.declared.leg.Leg.{Leg}
use Rattle.ch_query.proofs.faults.Pairs.{IsPairCovered}
use Rattle.ch_query.proofs.checking.lower.are_covered_from.Given as goal

abbrev pub invariant-loop-out : goal.invariant-loop-out
invariant-loop-out l = record {
  covered : (j : ℕ) (d : Leg) → j < l.out-index → IsPairCovered l.hierarchy l.into (get_or l.out-items j d);
  sides : l.sides ≡ l.fn.sides;
}
