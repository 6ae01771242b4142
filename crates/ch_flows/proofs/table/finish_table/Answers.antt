-- What is held for columns is handed on, and then down.
use Rattle.std.proofs.Common.{◌≡◌, ℕ, List, length, ap, sym, subst, ◌∙◌, arith}
use Rattle.std.specs.Vec.{with_items}
use Rattle.std.proofs.lemmas.List.{with_items_is}
use Rattle.ch_flows.specs.Plans.{AreFlowsOf}
use Rattle.ch_flows.specs.Cells.{summed}
use Rattle.ch_flows.proofs.Plans.{over_too_much}
use Rattle.ch_flows.proofs.Results.{if_err-map, if_ok-map}
use Rattle.ch_flows.proofs.SumsHanded.{legs_have, legs_over}
use Rattle.ch_flows.proofs.table.finish_table.Goals as goal

pub returns-in_default-clause-refused : goal.returns-in_default-clause-refused
returns-in_default-clause-refused c = λ H sources targets demands of counted.
    let plan = c.args.plan.now in
    let columns = c.args.columns.now.branches.items in
    let sums = c.args.sums.now in
    let over = legs_over columns c.deref.result.now sums.columns.items c.as_mut_slice.result.now sums.legs.items
    c.as_mut_slice-2.result.now c.deref.ensures.value c.as_mut_slice.ensures.value c.as_mut_slice-2.ensures.value
    (c.in_default.ensures {u = tt}).over in (
      length sources,
      counted.0,
      omega arith,
      counted.1,
      over_too_much H plan.layout.links.items plan.parts.items of.is counted.0 (summed columns sums) (length sums.legs.items)
          c.requires.long counted.2 over,
    )

pub returns-clause-flows : goal.returns-clause-flows
returns-clause-flows c =
    let plan = c.args.plan.now in
    let columns = c.args.columns.now.branches.items in
    let sums = c.args.sums.now in
    let once = c.hand_on.new.flows in
    let twice = c.finish.new.flows in
    let handed = c.in-Ok.ensures {u = tt} in
    let size : length once ≡ length sums.legs.items = handed.long ∙ ap length c.as_mut_slice-2.ensures.value in
    let first = with_items_is sums.legs once (size ∙ sym sums.legs.ok.0) in
    let slice : c.as_mut_slice-3.result.now ≡ once = c.as_mut_slice-3.ensures.value ∙ first in
    let have = legs_have columns c.deref.result.now sums.columns.items c.as_mut_slice.result.now sums.legs.items
    c.as_mut_slice-2.result.now c.deref.ensures.value c.as_mut_slice.ensures.value c.as_mut_slice-2.ensures.value once
    c.as_mut_slice-3.result.now slice handed.handed in
    let second = with_items_is (with_items sums.legs once) twice
    (c.finish.ensures.long ∙ ap length slice ∙ size ∙ sym sums.legs.ok.0) in
    if_ok-map c.finish.result (λ all made H sources targets demands of counted.
    subst (λ (l : List ℕ). AreFlowsOf H plan sources targets demands l all) (sym second)
    (made H sources targets demands of (counted.0, counted.1, (λ u w share are. have share ∙ counted.2 u w share are), counted.3)))
    c.finish.ensures.flows

pub returns-clause-refused : goal.returns-clause-refused
returns-clause-refused c =
    let columns = c.args.columns.now.branches.items in
    let sums = c.args.sums.now in
    let once = c.hand_on.new.flows in
    let handed = c.in-Ok.ensures {u = tt} in
    let size : length once ≡ length sums.legs.items = handed.long ∙ ap length c.as_mut_slice-2.ensures.value in
    let slice : c.as_mut_slice-3.result.now ≡ once =
    c.as_mut_slice-3.ensures.value ∙ with_items_is sums.legs once (size ∙ sym sums.legs.ok.0) in
    let have = legs_have columns c.deref.result.now sums.columns.items c.as_mut_slice.result.now sums.legs.items
    c.as_mut_slice-2.result.now c.deref.ensures.value c.as_mut_slice.ensures.value c.as_mut_slice-2.ensures.value once
    c.as_mut_slice-3.result.now slice handed.handed in
    if_err-map c.finish.result (λ error made H sources targets demands of counted.
    made H sources targets demands of (counted.0, counted.1, (λ u w share are. have share ∙ counted.2 u w share are), counted.3))
    c.finish.ensures.refused
