-- The first leg without an arc, then the first false shortcut, then the first arc without a leg is the first fault, if any.
use Rattle.std.proofs.Common.{All, ◌∙◌, ap, subst}
use Rattle.ch_graph.specs.Saved.{OrderAndLegs}
use Rattle.ch_hierarchy.specs.Assembling.{IsFirstFailing}
use Rattle.ch_query.specs.Checking.{IsSumIfShortcut, IsServed}
use Rattle.ch_query.proofs.faults.Checked.{base_first, middle_first, arc_first}
use Rattle.ch_query.proofs.checking.first_unfounded.Goals as goal

pub returns-in-Some : goal.returns-in-Some
returns-in-Some c =
    base_first c.args.graph.now c.args.saved.now c.args.hierarchy.now c.requires.named c.in-Some.place (rw c.in-Some.is at c.requires.bases)

pub returns-in-Some-first_failing : goal.returns-in-Some-first_failing
returns-in-Some-first_failing c =
    let is = c.as_slice-legs.ensures.value ∙ ap (λ (q : OrderAndLegs). q.legs) c.saved.view_is in
    let bases = rw c.in_default.is at c.requires.bases in
    middle_first c.args.graph.now c.args.saved.now c.args.hierarchy.now c.requires.named bases c.in-Some-first_failing.place
    (subst (λ q. IsFirstFailing (IsSumIfShortcut c.args.hierarchy.now) q c.in-Some-first_failing.place) is
    c.in-Some-first_failing.ensures)

pub returns-in-Some-first_failing-2 : goal.returns-in-Some-first_failing-2
returns-in-Some-first_failing-2 c =
    let is = c.as_slice-legs.ensures.value ∙ ap (λ (q : OrderAndLegs). q.legs) c.saved.view_is in
    let bases = rw c.in_default.is at c.requires.bases in
    let sums = subst (All (IsSumIfShortcut c.args.hierarchy.now)) is c.in_default-first_failing.ensures in
    arc_first c.args.graph.now c.args.saved.now c.args.hierarchy.now c.requires.named bases sums c.in-Some-first_failing-2.place
    (subst (λ q. IsFirstFailing (IsServed c.args.hierarchy.now) q c.in-Some-first_failing-2.place) c.arcs.ensures.arcs
    c.in-Some-first_failing-2.ensures)

pub returns : goal.returns
returns c =
    let is = c.as_slice-legs.ensures.value ∙ ap (λ (q : OrderAndLegs). q.legs) c.saved.view_is in
    record {
      names = c.requires.named;
      bases = rw c.in_default.is at c.requires.bases;
      sums = subst (All (IsSumIfShortcut c.args.hierarchy.now)) is c.in_default-first_failing.ensures;
      served = subst (All (IsServed c.args.hierarchy.now)) c.arcs.ensures.arcs c.in_default-first_failing-2.ensures;
    }
