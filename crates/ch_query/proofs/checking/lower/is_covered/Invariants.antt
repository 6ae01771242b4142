-- Each leg into the node before the current one is covered together with all legs up, and both sides are clean.
use Rattle.std.proofs.Common.{◌≡◌, ℕ, ◌<◌, get_or}
use Rattle.ch_hierarchy.specs.declared.leg.Leg.{Leg}
use Rattle.ch_query.specs.Covering.{IsCoveredFrom}
use Rattle.ch_query.proofs.checking.lower.is_covered.Given as goal

abbrev pub invariant-loop-into : goal.invariant-loop-into
invariant-loop-into l = record {
  covered : (j : ℕ) (d : Leg) → j < l.into-index → IsCoveredFrom l.hierarchy l.node (get_or l.into-items j d);
  sides : l.sides ≡ l.fn.sides;
}
