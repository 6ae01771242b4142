-- The views of two passes may be joined into one.
use Rattle.std.proofs.Common.{◌≡◌, ◌+◌, arith}
use Rattle.ch_work.proofs.Ends.{joins}
use Rattle.ch_work.proofs.board.Board.take_in.Goals as goal

pub join_seat-requires : goal.join_seat-requires
join_seat-requires c =
    let b = c.args.self.now in
    let p = c.args.pass in
    let w : b.table.shared.table_id.words ≡ b.cells + 1 = b.words in
    let one : p.seat.me.0.parts ≡ 1 = p.one_part in (
      c.requires.board.0,
      c.requires.board.1,
      p.no_slot,
      omega (arith, w),
      joins b.table.shared.key c.args.all.now.id c.args.all.now.me.0 p.seat.id p.seat.me.0 (omega arith),
    )
