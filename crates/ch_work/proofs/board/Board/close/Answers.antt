-- The words that are read when all passes are back are the cells that their views together settle.
use Rattle.std.proofs.Common.{rules, ◌≡◌, ◌+◌, ◌∙◌, ◌<◌, sym, ℕ, slice_index, slice_index_or, arith, map, length}
use Rattle.std.specs.Slots.{slots_items}
use Rattle.ch_work.specs.Rule.{IsRead, Settled}
use Rattle.ch_work.specs.Passes.{view_of}
use Rattle.ch_work.proofs.Gathers.{both_ok, settled_words}
use Rattle.ch_work.proofs.board.Board.close.Goals as goal

pub returns : goal.returns
returns c =
    let b = c.args.self in
    let k = b.table.shared.key in
    let words = slots_items c.close_with-closed.result.words in
    let ps = c.args.passes.items in
    let cells : k.cells ≡ b.cells = b.size_cells in
    let len : length ps ≡ k.passes = (search rules) ∙ c.requires.count in
    both_ok c.read_cells-values.result
    (λ v. length v.items ≡ b.cells)
    (λ v. (i : ℕ) (d : _) → i < b.cells → IsRead (slice_index words (i + 1)) (slice_index_or v.items i d))
    (λ v. Settled k (map view_of ps) v.items)
    c.read_cells-values.ensures.count c.read_cells-values.ensures.each
    (λ v n each. settled_words k c.gathered-all.result.id c.gathered-all.result.me.0 words
    (slots_items c.close_with-closed.result.slots) ps v.items
    c.close_with-closed.ensures.values.2 c.gathered-all.ensures.view len (n ∙ sym cells) (λ i d lt. each i d (omega (arith, lt, cells))))
