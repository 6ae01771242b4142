-- The view is that of the passes so far together, and the passes that are left follow them.
use Rattle.std.proofs.Common.{◌≡◌, ◌++◌, map}
use Rattle.ch_work.specs.Rule.{Sums}
use Rattle.ch_work.specs.Passes.{view_of}
use Rattle.ch_work.proofs.board.Board.gathered.Given as goal

abbrev pub invariant-loop-pass : goal.invariant-loop-pass
invariant-loop-pass l =
    (l.all.table_id ≡ l.self.table.shared.table_id)
    × Sums l.all.me.0 (map view_of l.yielded)
    × (l.fn.passes.items ≡ l.yielded ++ l.pass-iterator.rest.items)
