-- One of the two passes goes on, and what is above both nodes stays above both places.
use Rattle.std.proofs.Common.{◌≡◌, ◌+◌, ◌-◌, ◌<◌, subst, arith}
use Rattle.std.specs.Prelude.{slice_index}
use Rattle.ch_hierarchy.specs.declared.side.Side.TheVariants.{Up, Down}
use Rattle.ch_tree.specs.Tree.{place_of, IsSwept}
use Rattle.ch_tree.proofs.theory.Climbs.{common_left, common_right}
use Rattle.ch_tree.proofs.query.sweep_to_meeting.Goals as goal

pub loop-from-preserved-then-from-to : goal.loop-from-preserved-then-from-to
loop-from-preserved-then-from-to c =
    let i = c.loop-from.invariant in
    let less = c.if-from-to.true in
    let e : c.loop-from.from - 1 + 1 ≡ c.loop-from.from = omega arith in (
      subst (λ q. IsSwept c.args.hierarchy.now Up c.args.parents.now c.args.start
          (slice_index c.args.parents.now q) c.sweep.new.costs.items) e
          c.sweep.ensures.swept,
      i.1,
      common_left c.args.parents.now c.requires.tree.falls (place_of c.args.hierarchy.now c.args.start)
          (place_of c.args.hierarchy.now c.args.end)
          c.loop-from.from c.loop-from.to i.2 (omega arith),
    )

pub loop-from-preserved : goal.loop-from-preserved
loop-from-preserved c =
    let i = c.loop-from.invariant in
    let apart = c.loop-from-test.true in
    let le = c.if-from-to.false in
    let less : c.loop-from.from < c.loop-from.to = omega arith in
    let e : c.loop-from.to - 1 + 1 ≡ c.loop-from.to = omega arith in (
      i.0,
      subst (λ q. IsSwept c.args.hierarchy.now Down c.args.parents.now c.args.end
          (slice_index c.args.parents.now q) c.sweep-else-from-to.new.costs.items) e
          c.sweep-else-from-to.ensures.swept,
      common_right c.args.parents.now c.requires.tree.falls (place_of c.args.hierarchy.now c.args.start)
          (place_of c.args.hierarchy.now c.args.end)
          c.loop-from.from c.loop-from.to i.2 less,
    )

pub returns-clause-common : goal.returns-clause-common
returns-clause-common c x one two = (c.loop-from.invariant.2 x one two).0
