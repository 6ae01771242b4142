-- One more place has the value of the piece with its number.
use Rattle.std.proofs.Common.{◌≡◌, ◌+◌, ◌*◌, ◌∙◌, min, [], ◌∷◌, ◌++◌, length, length-append, IsSomeAnd, arith, sym}
use Rattle.ch_work.specs.Pieces.{pieces_of}
use Rattle.ch_work.proofs.Items.{item_has, next_split, next_done}
use Rattle.ch_work.proofs.Values.{values-push}
use Rattle.ch_work.proofs.shared.in_order.Goals as goal

pub loop-place-preserved : goal.loop-place-preserved
loop-place-preserved g c =
    let work = c.args.work.now in
    let meaning = g.J.RoomJob.meaning work.job.now in
    let start = c.into_iter-place-iterator.result.rest.items in
    let before = c.loop-place.yielded in
    let place = c.in-Some.place in
    let rest = c.next.new.self.rest.items in
    let now = next_split start before c.loop-place.place-iterator.rest.items place rest c.loop-place.invariant.1
    c.in-Some.ensures.steps.0 in
    let all = sym c.into_iter-place-iterator.ensures.into_iter_gives.0 ∙ now in
    let has = item_has (λ k o. IsSomeAnd o (λ x. meaning (k * work.piece) (min (k * work.piece + work.piece) work.items) x))
    c.in_ok-places.places.items
    (pieces_of work.items work.piece) c.in_ok-places.ensures.len c.in_ok-places.ensures.each before rest place all in
    let means = rw c.in-Some-place.is at has in
    let value = c.in-Some-place.value in
    let more : length (before ++ place ∷ []) ≡ length before + 1 = omega (arith, length-append before (place ∷ [])) in
    let values = values-push meaning work.items work.piece c.loop-place.values.items value 0 (length before)
    c.loop-place.invariant.0 means in
    (rw (c.in_ok-push.ensures.items, more) values, next_done start before rest place now)
