-- The pieces that this pass claimed so far have paid what they owe, and each turn claims a later piece.
use Rattle.std.proofs.Common.{◌-◌}
use Rattle.ch_work.specs.Owed.{Paying}
use Rattle.ch_work.specs.Passes.{view_of, IsPassOf}
use Rattle.ch_work.specs.Pieces.{pieces_of}
use Rattle.ch_work.proofs.paying.Payments.pay_off.Given as goal

abbrev pub invariant-loop-number : goal.invariant-loop-number
invariant-loop-number g l =
    IsPassOf l.self.board.now l.pass
    × Paying (g.J.CellJob.owes l.self.job.now) l.self.items l.self.piece (view_of l.pass) l.next

abbrev pub decreases-loop-number : goal.decreases-loop-number
decreases-loop-number g l = pieces_of l.self.items l.self.piece - l.next
