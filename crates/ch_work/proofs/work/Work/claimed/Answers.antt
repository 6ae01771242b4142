-- One more claimed piece has its value, and the workspace stays clean.
use Rattle.std.proofs.Common.{◌<◌, arith}
use Rattle.ch_work.specs.Passes.{view_of}
use Rattle.ch_work.specs.Pieces.{pieces_of}
use Rattle.ch_work.proofs.Claims.{goes_on}
use Rattle.ch_work.proofs.work.Work.claimed.Goals as goal

pub loop-number-preserved : goal.loop-number-preserved
loop-number-preserved g c =
    let work = c.args.self.now in
    let meaning = g.J.RoomJob.meaning work.job.now in
    let number = c.in-Some.number in
    let some = c.in-Some.ensures.some in
    let so_far = c.loop-number.invariant.1 in
    let within : number < pieces_of work.items work.piece = (let below = some.0 in let pieces = so_far.pieces in omega arith) in (
      c.claim.ensures.board,
      rw c.in_ok-push.ensures.items
          (goes_on meaning work.items work.piece (view_of c.loop-number.pass) (view_of c.claim.new.pass) c.loop-number.next number
          c.loop-number.done.items c.in_ok-value.value so_far within some.1 c.in_ok-value.ensures.value),
      c.in_ok-value.ensures.clean,
    )
