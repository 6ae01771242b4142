-- The step that claims a piece is one that the board's rule allows.
use Rattle.std.proofs.Common.{◌≡◌, ◌+◌, arith, ap, ◌∙◌}
use Rattle.ch_work.specs.Counts.{bit}
use Rattle.ch_work.proofs.Moves.{claims}
use Rattle.ch_work.proofs.board.Board.claim.Goals as goal

pub fetch_add-found-requires : goal.fetch_add-found-requires
fetch_add-found-requires c =
    let p = c.args.pass.now in
    let b = c.args.self.now in
    let w : b.table.shared.table_id.words ≡ b.cells + 1 = b.words in
    let one : p.seat.me.0.parts ≡ 1 = p.one_part in
    let e : p.seat.me.0.ended ≡ bit p.ended = p.same_end in
    let e' : p.seat.me.0.ended ≡ 0 = e ∙ ap bit c.if-pass.false in (
      c.requires,
      omega (arith, w),
      claims b.table.shared.key b.table.shared.table_id.slots p.seat.id p.seat.me.0 p.seat.me.1
          (omega arith) (omega arith),
    )
