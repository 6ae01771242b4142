-- Each item before the current place is right.
use Rattle.std.proofs.Common.{get_or, ℕ, ◌<◌}
use Rattle.ch_query.proofs.checking.lists.first_failing.Given as goal

abbrev pub invariant-loop-place : goal.invariant-loop-place
invariant-loop-place g l = (j : ℕ) (d : _) → j < l.place → g.C.ListCheck.right l.check (get_or l.items j d)
