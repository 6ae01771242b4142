-- The passes and the pieces of the workers so far are gathered, and the workspaces that came back are clean.
use Rattle.std.proofs.Common.{◌≡◌, ◌++◌, All, length, vec_len}
use Rattle.ch_work.specs.Claims.{AreGathered}
use Rattle.ch_work.proofs.shared.gathered.Given as goal

abbrev pub invariant-loop-pass : goal.invariant-loop-pass
invariant-loop-pass g l =
    (vec_len l.passes ≡ length l.yielded)
    × AreGathered (g.J.RoomJob.meaning l.work.job.now) l.work.items l.work.piece l.board l.passes.items l.all.items
    × All (g.J.RoomJob.clean l.work.job.now) l.rooms.items
    × (l.fn.worked.items ≡ l.yielded ++ l.pass-iterator.rest.items)
