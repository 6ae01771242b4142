-- One more item is right, or it is the first that is not.
use Rattle.std.proofs.Common.{refl, sym, subst}
use Rattle.std.specs.Prelude.{◌↔◌, IsTrue, false}
use Rattle.std.proofs.lemmas.List.Elements.{Contains-get_or}
use Rattle.ch_query.proofs.faults.FirstFailing.{read_more, first_failing}
use Rattle.ch_query.proofs.checking.lists.first_failing.Goals as goal

pub is_right-requires : goal.is_right-requires
is_right-requires g c =
    let item = c.index-items-place.result in
    subst (g.C.ListCheck.takes c.args.check.now) (sym c.index-items-place.is)
    (c.requires _ (Contains-get_or c.args.items.now c.loop-place.place item c.loop-place-test.true))

pub returns-then-not-is_right : goal.returns-then-not-is_right
returns-then-not-is_right g c =
    let item = c.index-items-place.result in
    let right = g.C.ListCheck.right c.args.check.now in
    first_failing right c.args.items.now c.loop-place.place item c.loop-place.invariant c.loop-place-test.true
    (subst (λ x. IsTrue false ↔ right x) c.index-items-place.is c.if-not-is_right.ensures)

pub loop-place-preserved : goal.loop-place-preserved
loop-place-preserved g c =
    let item = c.index-items-place.result in
    let right = g.C.ListCheck.right c.args.check.now in
    read_more right c.args.items.now c.loop-place.place item c.loop-place.invariant c.loop-place-test.true
    (subst right c.index-items-place.is (c.if-not-is_right.ensures.0 refl))
