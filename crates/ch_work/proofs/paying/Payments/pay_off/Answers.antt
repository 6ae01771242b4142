-- One more claimed piece pays what it owes, and past the last piece all claimed ones have paid.
use Rattle.std.proofs.Common.{◌<◌, arith}
use Rattle.ch_work.specs.Passes.{view_of}
use Rattle.ch_work.specs.Pieces.{pieces_of}
use Rattle.ch_work.proofs.Pays.{pays_on}
use Rattle.ch_work.proofs.paying.Payments.pay_off.Goals as goal

pub loop-number-preserved : goal.loop-number-preserved
loop-number-preserved g c =
    let payments = c.args.self.now in
    let number = c.in-Some.number in
    let some = c.in-Some.ensures.some in
    let so_far = c.loop-number.invariant.1 in
    let within : number < pieces_of payments.items payments.piece = (let below = some.0 in let pieces = so_far.pieces in omega arith) in (
      c.in_ok-pay_piece.ensures.board,
      pays_on (g.J.CellJob.owes payments.job.now) payments.items payments.piece (view_of c.loop-number.pass)
          (view_of c.claim.new.pass) (view_of c.pay_piece.new.pass) c.loop-number.next number
          so_far within some.1 c.in_ok-pay_piece.ensures.offers c.in_ok-pay_piece.ensures.covers,
    )
