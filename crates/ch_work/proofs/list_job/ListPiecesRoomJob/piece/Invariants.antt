-- The items before the current one have their values in order, and the workspace is clean.
use Rattle.std.proofs.Common.{take}
use Rattle.std.specs.List.{AllZip}
use Rattle.ch_work.proofs.list_job.ListPiecesRoomJob.piece.Given as goal

abbrev pub invariant-loop-item : goal.invariant-loop-item
invariant-loop-item g l =
    AllZip (g.J.ListJob.meaning l.self.0) (take l.item-index l.items) l.values.items
    × g.J.ListJob.clean l.self.0 l.room
