-- The step that lowers a cell to an offer is one that the board's rule allows.
use Rattle.std.proofs.Common.{◌≡◌, ◌+◌, arith}
use Rattle.ch_work.proofs.Moves.{offers}
use Rattle.ch_work.proofs.board.Board.offer.Goals as goal

pub fetch_min-requires : goal.fetch_min-requires
fetch_min-requires c =
    let p = c.args.pass.now in
    let b = c.args.self.now in
    let w : b.table.shared.table_id.words ≡ b.cells + 1 = b.words in
    let k : b.table.shared.key.cells ≡ b.cells = b.size_cells in
    let one : p.seat.me.0.parts ≡ 1 = p.one_part in (
      c.requires.board,
      let lt = c.requires.cell in
          omega arith,
      offers b.table.shared.key b.table.shared.table_id.slots p.seat.id p.seat.me.0 p.seat.me.1 c.args.cell
          c.args.weight (omega arith) (let lt = c.requires.cell in omega arith) c.requires.weight,
    )
