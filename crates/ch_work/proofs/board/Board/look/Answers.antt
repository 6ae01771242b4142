-- The load of a cell is a step that the board's rule allows.
use Rattle.std.proofs.Common.{◌≡◌, ◌+◌, arith}
use Rattle.ch_work.proofs.Ends.{looks}
use Rattle.ch_work.proofs.board.Board.look.Goals as goal

pub load-found-requires : goal.load-found-requires
load-found-requires c =
    let p = c.args.pass.now in
    let b = c.args.self.now in
    let w : b.table.shared.table_id.words ≡ b.cells + 1 = b.words in
    let k : b.table.shared.key.cells ≡ b.cells = b.size_cells in
    let one : p.seat.me.0.parts ≡ 1 = p.one_part in (
      c.requires.board,
      let lt = c.requires.cell in omega arith,
      looks b.table.shared.key b.table.shared.table_id.slots p.seat.id
          p.seat.me.0 p.seat.me.1 c.args.cell (omega arith) (let lt = c.requires.cell in omega arith),
    )
