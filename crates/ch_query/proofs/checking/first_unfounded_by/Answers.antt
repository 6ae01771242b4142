-- The faults that workers look for come in the same order, so the first of them is the first fault, if any.
use Rattle.std.proofs.Common.{All, ◌∙◌, ap, subst}
use Rattle.ch_graph.specs.Saved.{OrderAndLegs}
use Rattle.ch_hierarchy.specs.Assembling.{IsFirstFailing}
use Rattle.ch_query.specs.Checking.{IsSumIfShortcut, IsServed}
use Rattle.ch_query.proofs.faults.Checked.{base_first, middle_first, arc_first}
use Rattle.ch_query.proofs.checking.first_unfounded_by.Goals as goal

pub returns-in-Some : goal.returns-in-Some
returns-in-Some g c =
    base_first c.args.graph.now c.args.saved.now c.args.hierarchy.now c.requires.named c.in-Some.place (rw c.in-Some.is at c.requires.bases)

pub returns-in-Some-2 : goal.returns-in-Some-2
returns-in-Some-2 g c =
    let is = c.as_slice-legs.ensures.value ∙ ap (λ (q : OrderAndLegs). q.legs) c.saved.view_is in
    let bases = rw c.in_default.is at c.requires.bases in
    middle_first c.args.graph.now c.args.saved.now c.args.hierarchy.now c.requires.named bases c.in-Some-2.place
    (subst (λ q. IsFirstFailing (IsSumIfShortcut c.args.hierarchy.now) q c.in-Some-2.place) is (rw c.in-Some-2.is at c.in_ok-place.ensures))

pub returns-in-Some-3 : goal.returns-in-Some-3
returns-in-Some-3 g c =
    let is = c.as_slice-legs.ensures.value ∙ ap (λ (q : OrderAndLegs). q.legs) c.saved.view_is in
    let bases = rw c.in_default.is at c.requires.bases in
    let sums = subst (All (IsSumIfShortcut c.args.hierarchy.now)) is (rw c.in_default-2.is at c.in_ok-place.ensures) in
    arc_first c.args.graph.now c.args.saved.now c.args.hierarchy.now c.requires.named bases sums c.in-Some-3.place
    (subst (λ q. IsFirstFailing (IsServed c.args.hierarchy.now) q c.in-Some-3.place) c.arcs.ensures.arcs
    (rw c.in-Some-3.is at c.in_ok-place-2.ensures))

pub returns : goal.returns
returns g c =
    let is = c.as_slice-legs.ensures.value ∙ ap (λ (q : OrderAndLegs). q.legs) c.saved.view_is in
    record {
      names = c.requires.named;
      bases = rw c.in_default.is at c.requires.bases;
      sums = subst (All (IsSumIfShortcut c.args.hierarchy.now)) is (rw c.in_default-2.is at c.in_ok-place.ensures);
      served = subst (All (IsServed c.args.hierarchy.now)) c.arcs.ensures.arcs (rw c.in_default-3.is at c.in_ok-place-2.ensures);
    }
