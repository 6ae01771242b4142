-- The trees that have an entry of one more node are met.
use Rattle.std.proofs.Common.{◌≡◌, ◌+◌, length, ap, refl, sym, subst, ◌∙◌}
use Rattle.std.proofs.lemmas.List.{with_items_is}
use Rattle.ch_flows.specs.Meetings.{AreMeetings, AreStopsAt}
use Rattle.ch_flows.specs.Trees.{mark_at}
use Rattle.ch_flows.proofs.meeting.meetings.Goals as goal

pub loop-k-preserved : goal.loop-k-preserved
loop-k-preserved c =
    let l = c.loop-k in
    let inv = l.invariant in
    let kept = c.args.kept.now in
    let new = c.meet_at.new.meetings in
    let slice : c.as_mut_slice.result.now ≡ l.meetings.items = c.as_mut_slice.ensures.value in
    let size : length new ≡ length l.meetings.items = c.meet_at.ensures.long ∙ ap length slice in
    let written = with_items_is l.meetings new (size ∙ sym l.meetings.ok.0) in
    record {
      long = ap length written ∙ size ∙ inv.long;
      met = λ lists count order orders stops.
          let node = (mark_at kept l.k).0 in
          let here = subst (AreStopsAt lists node) (sym c.row.ensures) (stops node (c.requires.nodes l.k c.loop-k-test.true)) in
          let before = subst (AreMeetings kept lists l.k) (sym slice) (inv.met lists count order orders stops) in
          subst (AreMeetings kept lists (l.k + 1)) (sym written)
          (c.meet_at.ensures.met kept lists l.k node c.loop-k-test.true refl (count ∙ sym inv.long ∙ ap length (sym slice)) order orders
          here before);
    }
