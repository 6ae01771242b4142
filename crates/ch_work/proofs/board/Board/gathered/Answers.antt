-- One more pass that is joined adds its view, so in the end the view is that of all passes.
use Rattle.std.proofs.Common.{◌≡◌, ◌+◌, map, arith, ◌∙◌}
use Rattle.ch_work.specs.Passes.{view_of}
use Rattle.ch_work.proofs.Ends.{enters}
use Rattle.ch_work.proofs.Gathers.{sums_push}
use Rattle.ch_work.proofs.Items.{map_push, next_split, next_done}
use Rattle.ch_work.proofs.board.Board.gathered.Goals as goal

pub load_new_seat-all-requires : goal.load_new_seat-all-requires
load_new_seat-all-requires c =
    let b = c.args.self.now in
    let w : b.table.shared.table_id.words ≡ b.cells + 1 = b.words in
    (omega (arith, w), enters b.table.shared.key b.table.shared.table_id.slots)

pub loop-pass-preserved : goal.loop-pass-preserved
loop-pass-preserved c =
    let ys = c.loop-pass.yielded in
    let p = c.in-Some.pass in
    let rest = c.next.new.self.rest.items in
    let now = next_split c.args.passes.items ys c.loop-pass.pass-iterator.rest.items p rest c.loop-pass.invariant.2
    c.in-Some.ensures.steps.0 in
    let s = sums_push c.loop-pass.all.me.0 (map view_of ys) (view_of p) c.loop-pass.invariant.1 in (
      c.take_in.ensures.board ∙ c.loop-pass.invariant.0,
      rw (c.take_in.ensures.view, map_push view_of ys p) s,
      next_done c.args.passes.items ys rest p now,
    )
