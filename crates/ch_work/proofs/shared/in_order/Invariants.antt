-- The values are those of the pieces before the current place, in order.
use Rattle.std.proofs.Common.{◌≡◌, ◌++◌, length}
use Rattle.ch_work.specs.Pieces.{AreValues}
use Rattle.ch_work.proofs.shared.in_order.Given as goal

abbrev pub invariant-loop-place : goal.invariant-loop-place
invariant-loop-place g l =
    AreValues (g.J.RoomJob.meaning l.work.job.now) l.work.items l.work.piece 0 (length l.yielded) l.values.items
    × (l.initial.place-iterator.rest.items ≡ l.yielded ++ l.place-iterator.rest.items)
