-- One more row is put in order and cut, and the rows before it stay as they are.
use Rattle.std.proofs.Common.{◌≡◌, [], map, slice_index_or, sym, ◌∙◌, ap, subst}
use Rattle.ch_rows.specs.Buckets.{turned}
use Rattle.ch_rows.specs.First.{IsSortedAndCut}
use Rattle.ch_rows.proofs.Filled.{cut_more}
use Rattle.ch_rows.proofs.first.first_of_each.Goals as goal

pub loop-i-preserved : goal.loop-i-preserved
loop-i-preserved c =
    let count = c.args.count in
    let rows = c.args.rows.now in
    let i = c.loop-i.i in
    let row = c.turn.new.row.items in
    let is : row ≡ map turned (slice_index_or rows i []) = c.in_ok-turn.ensures ∙ ap (map turned) c.row.ensures in
    let new = subst (IsSortedAndCut count row) (sym c.deref.ensures.value) c.sort_and_cut.ensures in
    let more = cut_more count rows c.loop-i.firsts c.push.new.self i row c.deref.result.now c.loop-i.invariant.size
    c.loop-i.invariant.each is new c.in_ok-push.ensures.ok in
    record { size = more.0; each = more.1 }
