-- The first fault of order, pairs and bounds is found, and without one the levels and rows are those that are named.
use Rattle.std.proofs.Common.{Contains, refl, sym, ◌∙◌, ap, subst}
use Rattle.ch_graph.specs.Saved.{OrderAndLegs}
use Rattle.ch_hierarchy.specs.declared.fault.CheckFault.TheVariants.{Order, Bound}
use Rattle.ch_hierarchy.specs.declared.placing.PlacedLegs.{PlacedLegs}
use Rattle.ch_hierarchy.specs.Saved.{AreLevelsOf, NamesFor}
use Rattle.ch_hierarchy.specs.Placing.{from_of, to_of}
use Rattle.ch_hierarchy.proofs.theory.SavedFaults.{IsEarlyFirst, refusal_of, assembles_value, assembles_fault, assembles_refused}
use Rattle.ch_hierarchy.proofs.theory.SavedFaults.{order_fault, pair_fault, bound_fault}
use Rattle.ch_hierarchy.proofs.code.PairFaults.{no_pair_fault, side_below}
use Rattle.ch_hierarchy.proofs.code.PlacedRows.{rows_name}
use Rattle.ch_hierarchy.proofs.assembling.assemble.Goals.{In_ok-downs}
use Rattle.ch_hierarchy.proofs.assembling.assemble.Goals as goal

pub returns-in_default-clause-fault : goal.returns-in_default-clause-fault
returns-in_default-clause-fault c =
    let not = rw c.in_default.is at c.in_ok-levels.ensures in
    (assembles_fault c.args.graph.now c.args.saved.now Order
    (order_fault c.args.graph.now c.args.saved.now c.nodes-nodes.result c.as_slice.result.now c.args.saved.now.legs
    c.nodes-nodes.ensures.nodes (c.as_slice.ensures.value ∙ ap (λ (q : OrderAndLegs). q.order) c.saved.view_is) refl not)).1

pub returns-in_err-pairs : goal.returns-in_err-pairs
returns-in_err-pairs c =
    let both = assembles_refused c.args.graph.now c.args.saved.now c.from_residual-in_err-pairs.result c.in_err-pairs.field-0.0
    c.from_residual-in_err-pairs.ensures.1 (λ f is.
    let found = rw c.in-Some.is at c.in_ok-levels.ensures in
    let first = c.in_err-pairs.ensures.fault f (ap (refusal_of PlacedLegs) is) in
    subst (IsEarlyFirst c.args.graph.now c.args.saved.now) (sym first.1)
    (pair_fault c.args.graph.now c.args.saved.now c.nodes-nodes.result c.as_slice.result.now c.as_slice-legs.result.now
    c.nodes-nodes.ensures.nodes (c.as_slice.ensures.value ∙ ap (λ (q : OrderAndLegs). q.order) c.saved.view_is)
    (c.as_slice-legs.ensures.value ∙ ap (λ (q : OrderAndLegs). q.legs) c.saved.view_is) found.0 first.0 first.2)) in
    record { value = both.0; fault = both.1 }

pub returns-in-Some-first_past_bounds : goal.returns-in-Some-first_past_bounds
returns-in-Some-first_past_bounds c =
    let found = rw c.in-Some.is at c.in_ok-levels.ensures in
    let are = subst (AreLevelsOf c.as_slice.result.now) (sym c.as_slice-2.ensures.value) found.1 in
    let both = assembles_fault c.args.graph.now c.args.saved.now (Bound c.in-Some-first_past_bounds.place)
    (bound_fault c.args.graph.now c.args.saved.now c.nodes-nodes.result c.as_slice.result.now c.as_slice-legs.result.now
    c.nodes-nodes.ensures.nodes (c.as_slice.ensures.value ∙ ap (λ (q : OrderAndLegs). q.order) c.saved.view_is)
    (c.as_slice-legs.ensures.value ∙ ap (λ (q : OrderAndLegs). q.legs) c.saved.view_is) found.0
    (no_pair_fault c.nodes-nodes.result c.as_slice.result.now c.as_slice-2.result.now found.0 are c.as_slice-legs.result.now _ _
    c.in_ok-pairs.ensures.pairs) c.in-Some-first_past_bounds.place c.in-Some-first_past_bounds.ensures) in
    record { value = both.0; fault = both.1 }

pub leg_lists-requires : goal.leg_lists-requires
leg_lists-requires c =
    let pairs = c.in_ok-pairs.ensures.pairs in
    let side = side_below c.nodes-nodes.result from_of to_of c.as_slice-2.result.now c.as_slice-legs.result.now _ pairs.up
    (λ l k. let j = pairs.joins l k in (j.0, j.1)) in
    record {
      below = λ e h. (side e (subst (λ q. Contains q e) c.as_slice-3.ensures.value h)).0;
      places = λ e h. (side e (subst (λ q. Contains q e) c.as_slice-3.ensures.value h)).1;
    }

pub leg_lists-requires-2 : goal.leg_lists-requires-2
leg_lists-requires-2 c =
    let pairs = c.in_ok-pairs.ensures.pairs in
    let side = side_below c.nodes-nodes.result to_of from_of c.as_slice-2.result.now c.as_slice-legs.result.now _ pairs.down
    (λ l k. let j = pairs.joins l k in (j.1, j.0)) in
    record {
      below = λ e h. (side e (subst (λ q. Contains q e) c.as_slice-4.ensures.value h)).0;
      places = λ e h. (side e (subst (λ q. Contains q e) c.as_slice-4.ensures.value h)).1;
    }

-- the levels and the rows that were made are those that the saved hierarchy names
named : (c : In_ok-downs) →
    NamesFor c.args.graph.now c.args.saved.now (record { level = c.in-Some.levels.items; up = c.in_ok-ups.ups; down = c.in_ok-downs.downs })
named c =
    let found = rw c.in-Some.is at c.in_ok-levels.ensures in
    rows_name c.args.graph.now c.args.saved.now c.nodes-nodes.result c.as_slice.result.now c.in-Some.levels.items
    c.as_slice-2.result.now c.as_slice-legs.result.now
    c.in_ok-pairs.pairs.ups.items c.as_slice-3.result.now c.in_ok-pairs.pairs.downs.items c.as_slice-4.result.now c.in_ok-ups.ups
    c.in_ok-downs.downs c.nodes-nodes.ensures.limits.size.0 c.nodes-nodes.ensures.nodes
    (c.as_slice.ensures.value ∙ ap (λ (q : OrderAndLegs). q.order) c.saved.view_is)
    (c.as_slice-legs.ensures.value ∙ ap (λ (q : OrderAndLegs). q.legs) c.saved.view_is)
    c.as_slice-2.ensures.value c.as_slice-3.ensures.value c.as_slice-4.ensures.value found.0 found.1 c.in_ok-pairs.ensures.pairs
    c.in_default-first_past_bounds.ensures c.in_ok-ups.ensures c.in_ok-downs.ensures

pub from_rows-requires : goal.from_rows-requires
from_rows-requires c = (named (goal.at.from_rows-requires c).In_ok-downs).0.levelled

pub returns : goal.returns
returns c =
    let names = subst (NamesFor c.args.graph.now c.args.saved.now) (sym c.in_ok-from_rows.ensures)
    (named (goal.at.returns c).In_ok-downs) in
    let both = assembles_value c.args.graph.now c.args.saved.now c.in_ok-from_rows.field-0 names in
    record { value = both.0; fault = both.1 }
