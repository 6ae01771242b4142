-- One more piece gives its nodes the priorities that they have now.
use Rattle.std.proofs.Common.{◌<◌, ◌≤◌, length, arith}
use Rattle.ch_order.specs.Priorities.{IsKeyIn}
use Rattle.ch_order.proofs.KeptPriorities.{refreshed_range}
use Rattle.ch_order.proofs.priority.PriorityJob.refresh.Goals as goal

pub loop-from-preserved : goal.loop-from-preserved
loop-from-preserved g c =
    let job = c.args.self.now in
    let i = c.loop-from.invariant in
    let some = c.piece-piece.ensures.limits.piece.0 in
    let same = c.piece-piece.ensures.piece in
    let end = c.min-to.ensures in
    let more = c.loop-from-test.true in
    let past : c.loop-from.from < c.min-to.result = omega arith in
    let inside : c.min-to.result ≤ length c.args.nodes.now = omega arith in
    let le : c.loop-from.from ≤ c.min-to.result = omega arith in (
      omega (arith, i.0, past),
      inside,
      refreshed_range (IsKeyIn job.keys job.remaining.now job.hops.number job.depths.now) c.args.nodes.now c.loop-from.from
          c.min-to.result _ _ _ le i.2 c.in_ok-refresh_here.ensures.anew,
      c.in_ok-refresh_here.ensures.ready,
    )
