-- The cells before the current one have the weights of their words.
use Rattle.std.proofs.Common.{◌≡◌, ◌+◌, ◌<◌, ℕ, length, slice_index, slice_index_or}
use Rattle.std.specs.Slots.{slots_items}
use Rattle.ch_work.specs.Rule.{IsRead}
use Rattle.ch_work.proofs.board.make.read_cells.Given as goal

abbrev pub invariant-loop-cell : goal.invariant-loop-cell
invariant-loop-cell l =
    (length l.values.items ≡ l.cell)
    × ((j : ℕ) (d : _) → j < l.cell → IsRead (slice_index (slots_items l.closed.words) (j + 1)) (slice_index_or l.values.items j d))
