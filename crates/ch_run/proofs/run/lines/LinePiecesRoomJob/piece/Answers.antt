-- One more item adds its lines, and the workspace stays clean.
use Rattle.std.proofs.Common.{◌≡◌, ◌+◌, [], take, ap, refl, sym, subst}
use Rattle.std.specs.List.{slice_range}
use Rattle.ch_run.proofs.Lines.{lines_more}
use Rattle.ch_run.specs.Lines.{HasLines}
use Rattle.ch_run.proofs.run.lines.LinePiecesRoomJob.piece.Goals as goal

pub loop-item-init : goal.loop-item-init
loop-item-init g c = (rw c.new-text.ensures.items ([], tt, refl), c.requires.clean)

pub loop-item-preserved : goal.loop-item-preserved
loop-item-preserved g c =
    let Lines = g.J.LineJob.lines c.args.self.now.0 in
    let items = slice_range c.self.inside.items.now c.args.from c.args.to in
    let i = c.loop-item.item-index in
    let item = c.item-item.result in
    let text = c.loop-item.text.items in
    let job : c.self.inside.job.now ≡ c.args.self.now.0 = ap (λ w. w.0) c.self.view_is in
    let made = c.in_ok-push.ensures.lines in
    let lines = subst (λ j. g.J.LineJob.lines j item made.0) job made.1 in
    let clean = subst (λ j. g.J.LineJob.clean j c.push.new.room) job c.in_ok-push.ensures.clean in (
      subst (HasLines Lines (take (i + 1) items)) (sym made.2)
          (lines_more Lines items i item text made.0 c.loop-item-test.true c.item-item.is c.loop-item.invariant.0 lines),
      clean,
    )
