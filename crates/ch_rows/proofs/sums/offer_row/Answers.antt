-- One more sum is offered if it is within the limit, and past the first that is not, no later sum is.
use Rattle.std.proofs.Common.{◌+◌, ◌<◌, length, get_or, sym, subst, arith}
use Rattle.std.proofs.lemmas.List.{take_more}
use Rattle.std.proofs.lemmas.Bool.{iff_false}
use Rattle.ch_query.specs.Lowered.{AreLowered}
use Rattle.ch_query.proofs.by_weight.LoweredWords.{IsOne, lowered_one}
use Rattle.ch_rows.proofs.Summed.{sums_more, sums_stop}
use Rattle.ch_rows.proofs.sums.offer_row.Goals as goal

pub returns-then-not-is_within : goal.returns-then-not-is_within
returns-then-not-is_within c =
    let a = c.args in
    sums_stop a.within a.weight c.loop-rest.rest-index a.bucket.now c.requires.bucket.order (0, 0) c.loop-rest-test.true
    (iff_false c.is_within.ensures c.if-not-is_within.true)
    a.offers.now c.loop-rest.offers c.loop-rest.invariant

pub loop-rest-preserved : goal.loop-rest-preserved
loop-rest-preserved c =
    let a = c.args in
    let i = c.loop-rest.rest-index in
    let entry = get_or a.bucket.now i (0, 0) in
    let low = c.is_within.ensures.0 c.if-not-is_within.false in
    let size = c.loop-rest.invariant.size in
    let among = (c.requires.bucket.entries i (0, 0) c.loop-rest-test.true).1 in
    let there : entry.1 < length c.loop-rest.offers = omega arith in
    sums_more a.within a.weight i a.bucket.now entry (take_more a.bucket.now i (0, 0) c.loop-rest-test.true) low a.offers.now
    c.loop-rest.offers c.offer.new.self
    c.loop-rest.invariant (subst (AreLowered (IsOne entry.1 (a.weight + entry.0)) c.loop-rest.offers) (sym c.in_ok-offer.ensures)
    (lowered_one entry.1 (a.weight + entry.0) c.loop-rest.offers there))
