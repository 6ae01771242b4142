-- The sums with the targets before the current one are paid.
use Rattle.std.proofs.Common.{take}
use Rattle.ch_rows.specs.Owed.{IsOwedInRow}
use Rattle.ch_work.specs.Owed.{HasPaid}
use Rattle.ch_work.specs.Passes.{view_of, IsPassOf}
use Rattle.ch_rows.proofs.owed.pay_row.Given as goal

abbrev pub invariant-loop-target : goal.invariant-loop-target
invariant-loop-target l = IsPassOf l.board l.pass
    × HasPaid (IsOwedInRow l.within l.first l.weight (take l.target-index l.targets)) (view_of l.fn.pass) (view_of l.pass)
