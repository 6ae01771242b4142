-- One more node has a key, so in the end all nodes have keys.
use Rattle.std.proofs.Common.{ℕ, List, ◌<◌, arith, subst, length, get_or}
use Rattle.std.proofs.lemmas.List.{take_all}
use Rattle.ch_order.specs.Quick.{HaveKeys}
use Rattle.ch_order.proofs.KeptPriorities.{refreshed_more}
use Rattle.ch_order.proofs.construction.quick.put_in_order.Goals as goal

pub set-requires : goal.set-requires
set-requires c =
    let size = c.loop-place.invariant.size in
    let node = c.requires.nodes c.loop-place.place 0 c.loop-place-test.true in
    omega arith

pub loop-place-preserved : goal.loop-place-preserved
loop-place-preserved c =
    let nodes = c.args.nodes.now in
    let i = c.loop-place.place in
    let size = c.loop-place.invariant.size in
    let node = c.requires.nodes i 0 c.loop-place-test.true in
    let within : get_or nodes i 0 < length c.loop-place.waiting = omega arith in
    rw (c.set.ensures) (refreshed_more (λ x p. Unit {0}) nodes i _ _ _ c.loop-place-test.true within tt c.loop-place.invariant)

pub returns : goal.returns
returns c =
    subst (λ (l : List ℕ). HaveKeys l c.args.waiting.now c.loop-place.waiting)
    (take_all c.loop-place.place c.args.nodes.now c.loop-place-test.false) c.loop-place.invariant
