-- The text has the lines of the items before the current one, and the workspace is clean.
use Rattle.std.proofs.Common.{take}
use Rattle.ch_run.specs.Lines.{HasLines}
use Rattle.ch_run.proofs.run.lines.LinePiecesRoomJob.piece.Given as goal

abbrev pub invariant-loop-item : goal.invariant-loop-item
invariant-loop-item g l =
    HasLines (g.J.LineJob.lines l.self.0) (take l.item-index l.items) l.text.items × g.J.LineJob.clean l.self.0 l.room
