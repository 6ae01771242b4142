-- Once all pieces are claimed and paid, each cell has the least weight that they owe to it.
use Rattle.std.proofs.Common.{rules, ◌≡◌, ◌<◌, ◌∙◌, ℕ, arith, ap, subst, length, map, vec_len, slice_index_or, IfOk}
use Rattle.ch_work.specs.declared.board.known.Size.{Size}
use Rattle.ch_work.specs.Owed.{IsLeastOwed}
use Rattle.ch_work.specs.Passes.{view_of, size_of}
use Rattle.ch_work.specs.Rule.{Settled}
use Rattle.ch_work.proofs.Gathers.{both_ok}
use Rattle.ch_work.proofs.Pays.{paid}
use Rattle.ch_work.proofs.cells.run_cells.Goals as goal

pub returns-clause-least : goal.returns-clause-least
returns-clause-least g c =
    let board = c.in_ok-board.board in
    let size = size_of board in
    let passes = c.in_ok-passes.passes.items in
    let owes = g.J.CellJob.owes c.args.job.now in
    let n = c.args.items in
    let p = c.piece-piece.result in
    let made = c.in_ok-board.ensures.size in
    let count = ap (λ (k : Size). k.pieces) made ∙ c.div_ceil-pieces.ensures in
    let cells = ap (λ (k : Size). k.cells) made in
    let len : length passes ≡ vec_len c.in_ok-passes.passes = search rules in
    let some_one : 0 < length passes =
    omega (
      arith,
      len,
      c.in_ok-passes.ensures.len,
      c.in_ok-worked.ensures.len,
      c.in_ok-board.ensures.count,
      c.workers_for-workers.ensures.limits.0,
    ) in
    subst (λ q. IfOk c.close.result (λ v. (i : ℕ) (d : _) → i < c.args.cells → IsLeastOwed owes n q i (slice_index_or v.items i d)))
    c.piece-piece.ensures.piece
    (both_ok c.close.result (λ v. Settled size (map view_of passes) v.items) (λ v. Settled size (map view_of passes) v.items)
    (λ v. (i : ℕ) (d : _) → i < c.args.cells → IsLeastOwed owes n p i (slice_index_or v.items i d))
    c.close.ensures c.close.ensures
    (λ v s s' i d lt. paid owes n p board size passes v.items s count c.in_ok-passes.ensures.each some_one i d (omega (arith, lt, cells))))
