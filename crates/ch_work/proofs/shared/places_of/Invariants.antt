-- The values of the pieces so far are at the places of their numbers.
use Rattle.std.proofs.Common.{◌≡◌, ◌++◌, length}
use Rattle.ch_work.specs.Pieces.{pieces_of}
use Rattle.ch_work.proofs.Claims.{ArePlaced}
use Rattle.ch_work.proofs.shared.places_of.Given as goal

abbrev pub invariant-loop-number : goal.invariant-loop-number
invariant-loop-number g l =
    (length l.places.items ≡ pieces_of l.work.items l.work.piece)
    × ArePlaced (g.J.RoomJob.meaning l.work.job.now) l.work.items l.work.piece l.places.items l.yielded
    × (l.fn.done.items ≡ l.yielded ++ l.number-iterator.rest.items)
