-- The items before the current one have paid what their nodes owe.
use Rattle.ch_rows.specs.Owed.{IsOwedAmong}
use Rattle.ch_work.specs.Owed.{HasPaid}
use Rattle.ch_work.specs.Passes.{view_of, IsPassOf}
use Rattle.ch_rows.proofs.owed.SumsCellJob.piece.Given as goal

abbrev pub invariant-loop-item : goal.invariant-loop-item
invariant-loop-item l = IsPassOf l.board l.pass × HasPaid (IsOwedAmong l.self l.from l.item) (view_of l.fn.pass) (view_of l.pass)
