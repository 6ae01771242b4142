-- The words of the pairs before the current one are their distances, and the engine is the same.
use Rattle.std.proofs.Common.{◌≡◌, ◌<◌, ℕ, None, length, slice_index}
use Rattle.ch_engine.specs.Cells.{IsCell}
use Rattle.ch_engine.proofs.engine.Engine.write_distances.Given as goal

abbrev pub invariant-loop-i : goal.invariant-loop-i
invariant-loop-i l =
    (l.self ≡ l.fn.self) × (length l.out ≡ length l.fn.out)
    × ((k : ℕ) → k < l.i → IsCell l.fn.self.hierarchy None (slice_index l.sources k) (slice_index l.targets k) (slice_index l.out k))
