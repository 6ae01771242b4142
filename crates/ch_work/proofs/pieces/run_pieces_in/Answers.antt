-- Once all passes are back each piece was claimed and done, so each number has its value.
use Rattle.std.proofs.Common.{rules, ◌≡◌, ◌<◌, arith, length, subst, vec_len, IfOk}
use Rattle.ch_work.specs.Passes.{size_of}
use Rattle.ch_work.specs.Pieces.{pieces_of, AreValues}
use Rattle.ch_work.proofs.Claims.{every_done}
use Rattle.ch_work.proofs.pieces.run_pieces_in.Goals as goal

pub gathered-requires-clause-each : goal.gathered-requires-clause-each
gathered-requires-clause-each g c κs lives i d lt = c.in_ok-worked.ensures.each i d (omega (arith, lt, c.in_ok-worked.ensures.len))

pub in_order-requires-clause-every : goal.in_order-requires-clause-every
in_order-requires-clause-every g c κs lives number within =
    let board = c.in_ok-board.board in
    let passes = c.in_ok-passes.passes in
    let pieces : (size_of board).pieces ≡ c.count-2.result = λ i. (c.in_ok-board.ensures.size i).pieces in
    let len : length passes.items ≡ vec_len passes = search rules in
    let some_pass : 0 < length passes.items =
    omega (
      arith,
      len,
      c.in_ok-passes.ensures.len,
      c.in_ok-worked.ensures.len,
      c.in_ok-hands.ensures.len,
      c.in_ok-board.ensures.count,
      c.workers_for-workers.ensures.limits.0,
    ) in
    every_done (g.J.RoomJob.meaning c.args.job.now) c.args.items c.piece.result board (size_of board) passes.items c.in_ok-passes.done.items
    c.in_ok-close.field-0.items
    c.in_ok-passes.ensures.all some_pass c.in_ok-close.ensures number (omega (arith, pieces, c.count-2.ensures, within))

pub returns-clause-values : goal.returns-clause-values
returns-clause-values g c =
    subst (λ p. IfOk c.in_order.result
    (λ v. AreValues (g.J.RoomJob.meaning c.args.job.now) c.args.items p 0 (pieces_of c.args.items p) v.items))
    c.piece.ensures.piece c.in_order.ensures
