-- One more leg offers its sums with the row where it leads, so in the end all sums within the limit are offered.
use Rattle.std.proofs.Common.{◌≡◌, ◌+◌, ◌++◌, ◌∷◌, ◌<◌, [], take, take_all, map, get_or, length, sym, subst, arith}
use Rattle.std.specs.Prelude.{slice_index_or}
use Rattle.std.proofs.lemmas.List.{take_more, get_or-map, length-map}
use Rattle.ch_hierarchy.specs.declared.ranked.RankedLeg.{RankedLeg}
use Rattle.ch_rows.specs.Buckets.{IsBucketAmong}
use Rattle.ch_rows.specs.Offers.{AreOffered}
use Rattle.ch_rows.specs.Sums.{IsSum, IsSumOf}
use Rattle.ch_rows.specs.Sweep.{entry_of_leg}
use Rattle.ch_query.proofs.by_weight.LoweredWords.{space_more, space_none}
use Rattle.ch_rows.proofs.sweep.offer_legs.Goals as goal

abbrev no_leg : RankedLeg
no_leg = record { rank = 0; arcs = 0; weight = 0 }

pub loop-leg-init : goal.loop-leg-init
loop-leg-init c = space_none (λ weight bucket j x. IsSum c.args.within weight bucket (x, j)) c.args.rows.now c.args.offers.now

pub offer_row-requires-clause-bucket : goal.offer_row-requires-clause-bucket
offer_row-requires-clause-bucket c =
    let a = c.args in
    let rank = (get_or a.legs.now c.loop-leg.leg-index no_leg).rank in
    subst (IsBucketAmong (length c.loop-leg.offers)) (sym c.row.ensures)
    (subst (λ n. IsBucketAmong n (slice_index_or a.rows.now rank [])) (sym c.loop-leg.invariant.size) (c.requires.rows rank))

pub loop-leg-preserved : goal.loop-leg-preserved
loop-leg-preserved c =
    let a = c.args in
    let i = c.loop-leg.leg-index in
    let leg = get_or a.legs.now i no_leg in
    let space = map entry_of_leg a.legs.now in
    let size = length-map a.legs.now entry_of_leg in
    let lt = c.loop-leg-test.true in
    let low : i < length space = omega arith in
    let is : get_or space i (0, 0) ≡ entry_of_leg leg = get_or-map entry_of_leg a.legs.now i no_leg (0, 0) lt in
    let more = subst (λ e. take (i + 1) space ≡ take i space ++ e ∷ []) is (take_more space i (0, 0) low) in
    space_more (λ weight bucket j x. IsSum a.within weight bucket (x, j)) a.rows.now i space (entry_of_leg leg) more a.offers.now
    c.loop-leg.offers c.offer_row.new.offers c.loop-leg.invariant
    (subst (λ l. AreOffered (IsSum a.within leg.weight l) c.loop-leg.offers c.offer_row.new.offers) c.row.ensures c.in_ok-offer_row.ensures)

pub returns : goal.returns
returns c =
    let a = c.args in
    let space = map entry_of_leg a.legs.now in
    let size = length-map a.legs.now entry_of_leg in
    subst (λ l. AreOffered (IsSumOf a.within l a.rows.now) a.offers.now c.loop-leg.offers)
    (take_all c.loop-leg.leg-index space (omega arith)) c.loop-leg.invariant
