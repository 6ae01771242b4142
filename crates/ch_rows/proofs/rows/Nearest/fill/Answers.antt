-- The least sums, in order and cut, are the near row within the bound.
use Rattle.std.proofs.Common.{ap, ◌∙◌, subst}
use Rattle.ch_rows.specs.First.{IsSortedAndCut}
use Rattle.ch_rows.specs.Near.{Wanted}
use Rattle.ch_rows.specs.Offers.{AreUnoffered}
use Rattle.ch_rows.proofs.NearRows.{near_row}
use Rattle.ch_rows.proofs.rows.Nearest.fill.Goals as goal

pub returns-clause-row : goal.returns-clause-row
returns-clause-row c =
    let w = c.args.self.now in
    let sums = c.in_ok-offer_sums.ensures.sums in
    let row = c.take.new.row.items in
    let cut = subst (λ count. IsSortedAndCut count row c.sort_and_cut.new.row.items) (ap (λ (q : Wanted). q.count) c.self.view_is)
    c.sort_and_cut.ensures in
    near_row w.hierarchy w.limit w.count w.targets sums.buckets sums.held c.args.bound c.requires.bound c.args.source sums.space sums.up
    sums.fresh c.offer_sums.new.room.offers row c.sort_and_cut.new.row.items sums.none sums.offered c.in_ok-take.ensures.taken cut

pub returns-clause-room : goal.returns-clause-room
returns-clause-room c =
    let sums = c.in_ok-offer_sums.ensures.sums in
    let none = subst (λ n. AreUnoffered n c.take.new.self) (sums.offered.size ∙ sums.none.size) c.in_ok-take.ensures.none in
    (c.in_ok-offer_sums.ensures.scratch, none)
