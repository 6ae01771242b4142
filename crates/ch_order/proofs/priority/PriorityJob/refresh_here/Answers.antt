-- One more node gets the priority that it has now, and no other priority changes.
use Rattle.std.proofs.Common.{◌≡◌, ◌<◌, to_z, of_z, w64, length, get_or, arith}
use Rattle.std.proofs.lemmas.Int.{to_z-of_z}
use Rattle.ch_order.specs.Priorities.{IsKeyIn}
use Rattle.ch_order.proofs.KeptPriorities.{refreshed_more}
use Rattle.ch_order.proofs.priority.PriorityJob.refresh_here.Goals as goal

pub loop-node-preserved : goal.loop-node-preserved
loop-node-preserved c =
    let job = c.args.self.now in
    let nodes = c.args.nodes.now in
    let i = c.loop-node.node-index in
    let known = c.loop-node.invariant.0 in
    let size = known.size in
    let whole = c.requires.size in
    let node = c.requires.nodes i 0 c.loop-node-test.true in
    let within : get_or nodes i 0 < length c.loop-node.waiting = omega arith in
    let same : to_z w64 (of_z w64 c.in_ok-priority.priority) ≡ c.in_ok-priority.priority = grind (arith, to_z-of_z) in (
      rw (c.set.ensures, same) (refreshed_more (IsKeyIn job.keys job.remaining.now job.hops.number job.depths.now) nodes i _ _ _
          c.loop-node-test.true within c.in_ok-priority.ensures.priority known),
      c.in_ok-priority.ensures.ready,
    )
