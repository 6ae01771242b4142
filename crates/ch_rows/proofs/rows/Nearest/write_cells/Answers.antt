-- The least sums are the cells of all targets, if no bucket leaves one out for their number.
use Rattle.std.proofs.Common.{rules, ◌≡◌, ap, ◌∙◌, sym, subst}
use Rattle.ch_rows.specs.Cells.{AreCells}
use Rattle.ch_rows.specs.LeastSums.{AreLeastSums}
use Rattle.ch_rows.specs.Near.{Wanted}
use Rattle.ch_rows.specs.Offers.{AreUnoffered}
use Rattle.ch_rows.proofs.CellRows.{cell_of_sums}
use Rattle.ch_rows.proofs.rows.Nearest.write_cells.Goals as goal

pub returns-clause-cells : goal.returns-clause-cells
returns-clause-cells c =
    let w = c.args.self.now in
    let least = c.offer_sums.new.room.offers in
    let sums = subst (λ limit. AreLeastSums w limit c.args.source least) (ap (λ (q : Wanted). q.limit) c.self.view_is)
    c.in_ok-offer_sums.ensures.sums in
    let is : c.extend_from_slice.new.self.items ≡ least = search rules in
    subst (AreCells w c.args.source) (sym is) (record {
      size = sums.offered.size ∙ sums.none.size;
      each = cell_of_sums w.hierarchy w.limit w.count w.targets sums.buckets sums.held c.args.source sums.space sums.up c.requires.whole
          sums.fresh least sums.none sums.offered;
    })

pub returns-clause-room : goal.returns-clause-room
returns-clause-room c =
    let sums = c.in_ok-offer_sums.ensures.sums in
    let none = subst (λ n. AreUnoffered n c.take.new.self) (sums.offered.size ∙ sums.none.size) c.in_ok-take.ensures.none in
    (c.in_ok-offer_sums.ensures.scratch, none)
