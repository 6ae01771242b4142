-- The items before the current one are right, and the workspace is clean.
use Rattle.std.proofs.Common.{◌≡◌}
use Rattle.ch_query.specs.Finding.{HoldsIn}
use Rattle.ch_query.proofs.checking.finding.CheckRangesRoomJob.piece.Given as goal

abbrev pub invariant-loop-item : goal.invariant-loop-item
invariant-loop-item g l = record {
  right : HoldsIn (g.C.ItemCheck.right l.self.check.now) l.from l.item;
  clean : g.C.ItemCheck.clean l.self.check.now l.room.room;
  found : l.room.found ≡ l.fn.room.found;
}
