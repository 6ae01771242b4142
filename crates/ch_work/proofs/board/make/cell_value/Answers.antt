-- A word that was never lowered is a cell without an offer, and any other word is the weight of its cell.
use Rattle.std.proofs.Common.{rules, ◌+◌, ◌∙◌, slice_index}
use Rattle.std.specs.Slots.{slots_items}
use Rattle.ch_work.proofs.Gathers.{index_is, read_none, read_some}
use Rattle.ch_work.proofs.board.make.cell_value.Goals as goal

pub returns-then-word : goal.returns-then-word
returns-then-word c =
    let e = index_is (slots_items c.args.closed.now.words) (c.args.cell + 1) c.word-word.result c.word-word.ensures in
    read_none (slice_index (slots_items c.args.closed.now.words) (c.args.cell + 1)) (e ∙ c.if-word.true)

pub returns-else-word : goal.returns-else-word
returns-else-word c =
    let e = index_is (slots_items c.args.closed.now.words) (c.args.cell + 1) c.word-word.result c.word-word.ensures in
    rw e (read_some c.word-word.result c.if-word.false (search rules))
