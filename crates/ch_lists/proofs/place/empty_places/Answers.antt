-- One more capacity puts the place of an empty list behind the places before it.
use Rattle.std.proofs.Common.{◌+◌, arith, refl, get_or, subst, sym}
use Rattle.std.proofs.lemmas.List.Sums.{sum_by_more, sum_by_more_le}
use Rattle.ch_lists.specs.Places.{AreEmptyPlaces}
use Rattle.ch_lists.proofs.Placed.{push_places}
use Rattle.ch_lists.proofs.place.empty_places.Goals as goal

pub loop-room-preserved : goal.loop-room-preserved
loop-room-preserved c =
    let rooms = c.args.rooms.now in
    let i = c.loop-room.room-index in
    let next = sum_by_more (λ x. x) rooms i 0 c.loop-room-test.true in
    let most = sum_by_more_le (λ x. x) rooms i 0 c.loop-room-test.true in
    record {
      room = omega arith;
      start = omega arith;
      placed = subst (λ items. AreEmptyPlaces (i + 1) (c.loop-room.start + get_or rooms i 0) items) (sym c.push_reserved.ensures.items)
          (push_places c.loop-room.places.items i c.loop-room.start
          (record { start = c.loop-room.start; len = 0; room = get_or rooms i 0 }) c.loop-room.invariant.placed refl refl
          (omega arith) (omega arith));
    }
