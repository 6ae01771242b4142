-- The passes so far have a clean workspace or none, and the passes that are left follow them.
use Rattle.std.proofs.Common.{◌≡◌, ◌++◌, All, length, vec_len}
use Rattle.ch_work.specs.Claims.{IsHand}
use Rattle.ch_work.proofs.shared.hands_of.Given as goal

abbrev pub invariant-loop-pass : goal.invariant-loop-pass
invariant-loop-pass g l =
    (vec_len l.hands ≡ length l.yielded)
    × All (IsHand (g.J.RoomJob.clean l.work.job.now) l.work.items l.work.piece l.board) l.hands.items
    × All (g.J.RoomJob.clean l.work.job.now) l.rooms.items
    × (l.fn.passes.items ≡ l.yielded ++ l.pass-iterator.rest.items)
