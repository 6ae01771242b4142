-- One more node is in the row.
use Rattle.std.proofs.Common.{sym, ap, subst, inl, inr}
use Rattle.ch_custom.specs.Pairs.{IsPutAt}
use Rattle.ch_custom.proofs.theory.Unions.{union_step, union_all}
use Rattle.ch_custom.proofs.pairs.merge_into.Goals.{then-node-without+in_ok-put_at, else-node-without}
use Rattle.ch_custom.proofs.pairs.merge_into.Goals as goal

pub loop-place-preserved : goal.loop-place-preserved
loop-place-preserved c =
    let f = c.first_from-next.ensures in
    elim c.if-node-without.branch [
      | then-node-without+in_ok-put_at w ↦ union_step _ _ _ _ _ _ c.loop-place.invariant c.loop-place-test.true c.requires.others _
          c.as_slice.result.now c.as_slice.ensures.value f.within f.before f.after c.if-node-without.row.items
          (inl (subst (IsPutAt _ _ _) (ap (λ r. r.items) (sym w.row-is)) w.in_ok-put_at.ensures)) (inl w.if-node-without.true)
      | else-node-without w ↦ union_step _ _ _ _ _ _ c.loop-place.invariant c.loop-place-test.true c.requires.others _
          c.as_slice.result.now c.as_slice.ensures.value f.within f.before f.after c.if-node-without.row.items
          (inr (w.if-node-without.false, ap (λ r. r.items) w.row-is)) (inr (ap (λ r. r.items) w.row-is))
    ]

pub returns : goal.returns
returns c = union_all _ _ _ c.loop-place.place c.loop-place.next _ c.loop-place.invariant c.loop-place-test.false
