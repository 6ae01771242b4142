-- One more cell has the weight of its word.
use Rattle.std.proofs.Common.{◌+◌, slice_index, arith, length-append, [], ◌∷◌}
use Rattle.std.specs.Slots.{slots_items}
use Rattle.ch_work.specs.Rule.{IsRead}
use Rattle.ch_work.proofs.Items.{each_push}
use Rattle.ch_work.proofs.board.make.read_cells.Goals as goal

pub loop-cell-preserved : goal.loop-cell-preserved
loop-cell-preserved c =
    let items = c.in_ok-push.ensures.items in
    let xs = c.loop-cell.values.items in
    let x = c.cell_value.result in
    let each = each_push (λ j o. IsRead (slice_index (slots_items c.args.closed.now.words) (j + 1)) o) xs c.loop-cell.cell x
    c.loop-cell.invariant.0 c.loop-cell.invariant.1 c.cell_value.ensures in
    rw items (omega (arith, length-append xs (x ∷ []), c.loop-cell.invariant.0), each)

pub returns-clause-each : goal.returns-clause-each
returns-clause-each c i d lt = c.loop-cell.invariant.1 i d (let f = c.loop-cell-test.false in omega arith)
