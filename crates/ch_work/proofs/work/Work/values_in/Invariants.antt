-- The values are those of the pieces before the current number, and the workspace is clean.
use Rattle.ch_work.specs.Pieces.{AreValues}
use Rattle.ch_work.proofs.work.Work.values_in.Given as goal

abbrev pub invariant-loop-number : goal.invariant-loop-number
invariant-loop-number g l =
    AreValues (g.J.RoomJob.meaning l.self.job.now) l.self.items l.self.piece 0 l.number l.values.items
    × g.J.RoomJob.clean l.self.job.now l.room
