-- One more piece has its value, and the workspace stays clean.
use Rattle.ch_work.proofs.Values.{values-push}
use Rattle.ch_work.proofs.work.Work.values_in.Goals as goal

pub loop-number-preserved : goal.loop-number-preserved
loop-number-preserved g c =
    let work = c.args.self.now in
    let meaning = g.J.RoomJob.meaning work.job.now in
    let values = c.loop-number.values.items in
    let value = c.in_ok-value.field-0 in
    let so_far = c.loop-number.invariant.0 in (
      rw c.in_ok-push.ensures.items (values-push meaning work.items work.piece values value 0 c.loop-number.number so_far
          c.in_ok-value.ensures.value),
      c.in_ok-value.ensures.clean,
    )
