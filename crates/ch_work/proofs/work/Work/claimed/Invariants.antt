-- The pieces that this pass claimed so far have their values, and each turn claims a later piece.
use Rattle.std.proofs.Common.{◌-◌}
use Rattle.ch_work.specs.Claims.{Working}
use Rattle.ch_work.specs.Passes.{view_of, IsPassOf}
use Rattle.ch_work.specs.Pieces.{pieces_of}
use Rattle.ch_work.proofs.work.Work.claimed.Given as goal

abbrev pub invariant-loop-number : goal.invariant-loop-number
invariant-loop-number g l =
    IsPassOf l.board l.pass
    × Working (g.J.RoomJob.meaning l.self.job.now) l.self.items l.self.piece (view_of l.pass) l.next l.done.items
    × g.J.RoomJob.clean l.self.job.now l.room

abbrev pub decreases-loop-number : goal.decreases-loop-number
decreases-loop-number g l = pieces_of l.self.items l.self.piece - l.next
