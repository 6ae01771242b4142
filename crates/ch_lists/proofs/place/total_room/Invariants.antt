-- The total is the sum of the capacities before the current one.
use Rattle.std.proofs.Common.{◌≡◌, take, sum}
use Rattle.ch_lists.proofs.place.total_room.Given as goal

abbrev pub invariant-loop-room : goal.invariant-loop-room
invariant-loop-room l = l.total ≡ sum (take l.room-index l.rooms)
