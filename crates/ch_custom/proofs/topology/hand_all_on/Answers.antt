-- With the triangles of one more place there are too many.
use Rattle.std.proofs.Common.{◌≡◌, ◌+◌, ◌<◌, length, ◌∙◌, ap, arith}
use Rattle.std.specs.Prelude.{slice_index}
use Rattle.ch_custom.specs.Pairs.{nodes_row}
use Rattle.ch_custom.specs.Triangles.{pairs_among}
use Rattle.ch_custom.proofs.theory.Triangles.{counted_more, all_have_more}
use Rattle.ch_custom.proofs.topology.hand_all_on.Goals as goal

pub returns-in_default-clause-exceeded : goal.returns-in_default-clause-exceeded
returns-in_default-clause-exceeded c _ =
    let i = c.loop-place.invariant in
    let lt : c.loop-place.place < length c.args.order.now = omega (arith, c.loop-place-test.true) in
    let rows = c.loop-place.pairs in
    let row = nodes_row rows (slice_index c.args.order.now c.loop-place.place) in
    let size : pairs_among c.len.result ≡ pairs_among (length row) = ap pairs_among (c.len.ensures
    ∙ c.copy_row.new.copy.ok.0 ∙ ap length c.in_ok-copy_row.ensures) in
    all_have_more c.args.graph.now c.args.order.now c.args.levels.now c.loop-place.place rows i.0 i.1 (c.loop-place.place + 1) c.args.most
    (omega arith) (omega (
      arith,
      size,
      i.2,
      c.in_default.ensures,
      counted_more c.args.graph.now c.args.order.now c.args.levels.now c.loop-place.place rows i.0 c.loop-place.place lt,
    ))
