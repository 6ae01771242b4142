-- The passes so far know nothing, and the root has as many passes left as are still to be split off.
use Rattle.std.proofs.Common.{◌≡◌, ◌-◌, [], vec_len, All}
use Rattle.ch_work.specs.Steps.{nothing_known}
use Rattle.ch_work.proofs.board.make.passes_of.Given as goal

abbrev pub invariant-loop-i : goal.invariant-loop-i
invariant-loop-i l =
    (l.root.table_id ≡ l.table.shared.table_id)
    × (l.root.me ≡ (nothing_known l.pieces (l.passes - l.i), []))
    × (vec_len l.all ≡ l.i)
    × All (λ p. (p.seat.table_id ≡ l.table.shared.table_id) × (p.seat.me.0 ≡ nothing_known l.pieces 1)) l.all.items
