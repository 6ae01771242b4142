-- The passes of the workers so far have paid off their pieces, and the workers that are left follow them.
use Rattle.std.proofs.Common.{◌≡◌, ◌++◌, All, length, vec_len}
use Rattle.ch_work.specs.Owed.{HasPaidOff}
use Rattle.ch_work.proofs.cells.all_paid.Given as goal

abbrev pub invariant-loop-pass : goal.invariant-loop-pass
invariant-loop-pass g l =
    (vec_len l.passes ≡ length l.yielded)
    × All (HasPaidOff (g.J.CellJob.owes l.payments.job.now) l.payments.items l.payments.piece l.payments.board.now) l.passes.items
    × (l.fn.worked.items ≡ l.yielded ++ l.pass-iterator.rest.items)
