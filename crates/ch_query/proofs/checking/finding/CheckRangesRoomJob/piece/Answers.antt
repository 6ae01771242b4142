-- One more item that is right extends the range of those before it, and the workspace stays clean.
use Rattle.std.proofs.Common.{refl}
use Rattle.ch_query.proofs.faults.Firsts.{holds_more}
use Rattle.ch_query.proofs.checking.finding.CheckRangesRoomJob.piece.Goals as goal

pub loop-item-preserved : goal.loop-item-preserved
loop-item-preserved g c = record {
  right = holds_more (g.C.ItemCheck.right c.args.self.now.check.now) c.args.from c.loop-item.item c.loop-item.invariant.right
      (c.if-not-is_right.ensures.right.0 refl);
  clean = c.is_right.ensures.clean;
  found = c.loop-item.invariant.found;
}
