-- Each place is cleared.
use Rattle.std.proofs.Common.{arith}
use Rattle.ch_tree.proofs.theory.Walks.{cleared_step, cleared_whole}
use Rattle.ch_tree.proofs.query.clear.Goals as goal

pub loop-place-preserved : goal.loop-place-preserved
loop-place-preserved c = cleared_step c.args.parents.now c.requires.falls c.loop-place.place _ c.loop-place.costs.items (let some =
    c.loop-place-test.true in omega arith) c.loop-place.invariant

pub returns : goal.returns
returns c = cleared_whole c.args.parents.now c.requires.falls c.loop-place.place _ c.loop-place.costs.items (λ some. let end =
    c.loop-place-test.false in omega arith) c.loop-place.invariant
