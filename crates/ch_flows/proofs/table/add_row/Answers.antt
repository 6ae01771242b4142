-- What is held for the row is handed on.
use Rattle.std.proofs.Common.{◌+◌, length, refl, ap, sym, ◌∙◌, arith}
use Rattle.std.specs.Vec.{with_items}
use Rattle.std.proofs.lemmas.List.{with_items_is}
use Rattle.ch_flows.specs.declared.sums.Sums.{Sums as AnySums}
use Rattle.ch_flows.specs.Cells.{summed, summed_with}
use Rattle.ch_flows.specs.Gathering.{gathered}
use Rattle.ch_flows.specs.Handing.{weighed}
use Rattle.ch_flows.proofs.HeldDemands.{over_more}
use Rattle.ch_flows.proofs.Plans.{over_too_much}
use Rattle.ch_flows.proofs.Served.{counted_same}
use Rattle.ch_flows.proofs.SumsHanded.{legs_have, legs_over, nothing_more, row_begins}
use Rattle.ch_flows.proofs.table.add_row.Goals as goal

pub returns-in-Err-clause-refused : goal.returns-in-Err-clause-refused
returns-in-Err-clause-refused c = λ sources targets demands first missed room at counted.
    let args = c.args in
    let H = args.hierarchy.now in
    let links = args.plan.now.layout.links.items in
    let row = args.row.now.branches.items in
    let columns = args.columns.now.branches.items in
    let sums = args.sums.now in
    let mid : AnySums = record { legs = sums.legs; row = c.resize.new.self; columns = sums.columns } in
    let sized = c.in-Ok.ensures {u = tt} in
    let none = nothing_more sums.row.items c.resize.new.self.items c.len.result sums.row.len
    (sym c.resize.new.self.ok.0 ∙ sized.len) (sym sums.row.ok.0) (λ k. sized.by_index.0 k 0) (λ k. sized.by_index.1 k 0 refl)
    c.requires.nothing in
    let begun = counted_same H links sources targets demands first (summed columns sums) (summed_with row columns mid) missed
    (row_begins row columns sums mid refl refl none) counted in
    (c.in-Err.ensures {u = tt}).refused sources targets demands first missed room at begun

pub returns-in_default-hand_on-clause-refused : goal.returns-in_default-hand_on-clause-refused
returns-in_default-hand_on-clause-refused c = λ sources targets demands first missed room at counted.
    let args = c.args in
    let H = args.hierarchy.now in
    let links = args.plan.now.layout.links.items in
    let row = args.row.now.branches.items in
    let columns = args.columns.now.branches.items in
    let sums = args.sums.now in
    let mid : AnySums = record { legs = sums.legs; row = c.resize.new.self; columns = sums.columns } in
    let sized = c.in-Ok.ensures {u = tt} in
    let none = nothing_more sums.row.items c.resize.new.self.items c.len.result sums.row.len
    (sym c.resize.new.self.ok.0 ∙ sized.len) (sym sums.row.ok.0) (λ k. sized.by_index.0 k 0) (λ k. sized.by_index.1 k 0 refl)
    c.requires.nothing in
    let begun = counted_same H links sources targets demands first (summed columns sums) (summed_with row columns mid) missed
    (row_begins row columns sums mid refl refl none) counted in
    let cells = c.in-Ok-add_cells.ensures {u = tt} in
    let all = cells.counted sources targets demands first missed at begun in
    let now = c.add_cells.new.sums in
    let over = legs_over row c.deref.result.now now.row.items c.as_mut_slice.result.now now.legs.items c.as_mut_slice-2.result.now
    c.deref.ensures.value c.as_mut_slice.ensures.value c.as_mut_slice-2.ensures.value (c.in_default-hand_on.ensures {u = tt}).over in
    let more = over_more (length now.legs.items) (λ share. weighed share now.legs.items + gathered share row now.row.items)
    (summed_with row columns now) (λ share. omega arith) over in (
      first + length args.cells.now,
      all.0,
      room,
      all.1,
      over_too_much H links args.plan.now.parts.items c.requires.plan.is all.0 (summed_with row columns now) (length now.legs.items)
          (cells.long ∙ c.requires.long) all.2 more,
    )

pub returns-clause-counted : goal.returns-clause-counted
returns-clause-counted c = λ sources targets demands first missed at counted.
    let args = c.args in
    let H = args.hierarchy.now in
    let links = args.plan.now.layout.links.items in
    let row = args.row.now.branches.items in
    let columns = args.columns.now.branches.items in
    let sums = args.sums.now in
    let mid : AnySums = record { legs = sums.legs; row = c.resize.new.self; columns = sums.columns } in
    let sized = c.in-Ok.ensures {u = tt} in
    let none = nothing_more sums.row.items c.resize.new.self.items c.len.result sums.row.len
    (sym c.resize.new.self.ok.0 ∙ sized.len) (sym sums.row.ok.0) (λ k. sized.by_index.0 k 0) (λ k. sized.by_index.1 k 0 refl)
    c.requires.nothing in
    let begun = counted_same H links sources targets demands first (summed columns sums) (summed_with row columns mid) missed
    (row_begins row columns sums mid refl refl none) counted in
    let all = (c.in-Ok-add_cells.ensures {u = tt}).counted sources targets demands first missed at begun in
    let now = c.add_cells.new.sums in
    let flows = c.hand_on.new.flows in
    let handed = c.in-Ok-hand_on.ensures {u = tt} in
    let written = with_items_is now.legs flows (handed.long ∙ ap length c.as_mut_slice-2.ensures.value ∙ sym now.legs.ok.0) in
    let have = legs_have row c.deref.result.now now.row.items c.as_mut_slice.result.now now.legs.items c.as_mut_slice-2.result.now
    c.deref.ensures.value c.as_mut_slice.ensures.value c.as_mut_slice-2.ensures.value flows (with_items now.legs flows).items written
    handed.handed in
    let new : AnySums = record {
      legs = with_items now.legs flows;
      row = with_items now.row c.hand_on.new.held;
      columns = now.columns;
    } in
    counted_same H links sources targets demands (first + length args.cells.now) (summed_with row columns now) (summed columns new)
    (missed + c.in-Ok-add_cells.missed) (λ share. omega (arith, have share)) all
