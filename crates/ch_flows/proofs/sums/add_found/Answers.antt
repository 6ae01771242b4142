-- A demand counts on the legs that are listed, or on both branches.
use Rattle.std.proofs.Common.{◌≡◌, ◌+◌, ◌*◌, ℕ, List, length, ap, sym, subst, ◌∙◌, arith}
use Rattle.std.specs.Vec.{with_items}
use Rattle.std.proofs.lemmas.List.{with_items_is}
use Rattle.ch_flows.specs.Cells.{summed_with}
use Rattle.ch_flows.specs.Found.{AreWithin, legs_of}
use Rattle.ch_flows.specs.Gathering.{IsFull, IsOver, gathered, worth}
use Rattle.ch_flows.specs.Handing.{IsExcessAlong, shares_of, weighed}
use Rattle.ch_flows.proofs.FoundWays.{between_worth}
use Rattle.ch_flows.proofs.HeldDemands.{full_over, over_more}
use Rattle.ch_flows.proofs.Results.{on_err, on_err-map, on_ok-map}
use Rattle.ch_flows.proofs.sums.add_found.Goals as goal

pub returns-in-Listed-clause-over : goal.returns-in-Listed-clause-over
returns-in-Listed-clause-over c =
    let row = c.args.row.now in
    let columns = c.args.columns.now in
    let listed = c.args.listed.now in
    let sums = c.args.sums.now in
    let demand = c.args.demand in
    let slice = c.as_mut_slice.result.now in
    let value : slice ≡ sums.legs.items = c.as_mut_slice.ensures.value in
    let way = ap (legs_of row columns listed) c.in-Listed.is in
    let old : (ℕ → ℕ) → ℕ = λ share. weighed share slice + demand * shares_of share listed in
    let all : (ℕ → ℕ) → ℕ = λ share.
    summed_with row columns sums share + demand * shares_of share (legs_of row columns listed c.args.found) in
    on_err-map c.add_along.result (IsExcessAlong listed demand slice) (IsOver (length sums.legs.items) all)
    (λ e. over_more (length sums.legs.items) old all
    (λ share. omega (arith, ap (weighed share) value, ap (λ (l : List ℕ). demand * shares_of share l) way))
    (subst (λ (n : ℕ). IsOver n old) (ap length value) e)) c.add_along.ensures.excess

pub returns-in_err-hold-in-Between-clause-over : goal.returns-in_err-hold-in-Between-clause-over
returns-in_err-hold-in-Between-clause-over c =
    let row = c.args.row.now in
    let columns = c.args.columns.now in
    let listed = c.args.listed.now in
    let sums = c.args.sums.now in
    let legs = length sums.legs.items in
    let demand = c.args.demand in
    let slice = c.as_mut_slice-in-Between.result.now in
    let value : slice ≡ sums.row.items = c.as_mut_slice-in-Between.ensures.value in
    let up = c.in-Between.up in
    let low = subst (AreWithin row columns) c.in-Between.is c.requires.within in
    let old : (ℕ → ℕ) → ℕ = λ share. gathered share row slice + demand * worth share row up in
    let all : (ℕ → ℕ) → ℕ = λ share.
    summed_with row columns sums share + demand * shares_of share (legs_of row columns listed c.args.found) in
    on_err c.from_residual.result (IsOver legs all)
    (over_more legs old all
    (λ share. omega (
      arith,
      ap (gathered share row) value,
      between_worth share row columns listed c.args.found up c.in-Between.down demand c.in-Between.is,
    ))
    (full_over legs row c.requires.sums.row_steps slice up demand (ap length value ∙ c.requires.sums.row_long) low.0
    (c.in_err-hold-in-Between.ensures {u = tt}).full))

pub returns-in_ok-hold-in-Between-clause-added : goal.returns-in_ok-hold-in-Between-clause-added
returns-in_ok-hold-in-Between-clause-added c =
    let row = c.args.row.now in
    let columns = c.args.columns.now in
    let listed = c.args.listed.now in
    let sums = c.args.sums.now in
    let demand = c.args.demand in
    let first = c.as_mut_slice-in-Between in
    let second = c.as_mut_slice-in-Between-2 in
    let up = c.in-Between.up in
    let down = c.in-Between.down in
    let here = c.in_ok-hold-in-Between.ensures {u = tt} in
    let there = c.hold-in-Between in
    let new_row = with_items_is sums.row c.hold.new.held (here.held ∙ ap length first.ensures.value ∙ sym sums.row.ok.0) in
    let new_columns = with_items_is sums.columns there.new.held
    (there.ensures.held ∙ ap length second.ensures.value ∙ sym sums.columns.ok.0) in
    on_ok-map there.result ((share : ℕ → ℕ) → gathered share columns there.new.held
    ≡ gathered share columns second.result.now + demand * worth share columns down)
    ((share : ℕ → ℕ) → summed_with row columns (record {
      legs = sums.legs;
      row = with_items sums.row c.hold.new.held;
      columns = with_items sums.columns there.new.held;
    }) share ≡ summed_with row columns sums share + demand * shares_of share (legs_of row columns listed c.args.found))
    (λ added share. omega (
      arith,
      added share,
      here.added share,
      ap (gathered share row) first.ensures.value,
      ap (gathered share columns) second.ensures.value,
      ap (gathered share row) new_row,
      ap (gathered share columns) new_columns,
      between_worth share row columns listed c.args.found up down demand c.in-Between.is,
    )) there.ensures.added

pub returns-in_ok-hold-in-Between-clause-over : goal.returns-in_ok-hold-in-Between-clause-over
returns-in_ok-hold-in-Between-clause-over c =
    let row = c.args.row.now in
    let columns = c.args.columns.now in
    let listed = c.args.listed.now in
    let sums = c.args.sums.now in
    let legs = length sums.legs.items in
    let demand = c.args.demand in
    let slice = c.as_mut_slice-in-Between-2.result.now in
    let value : slice ≡ sums.columns.items = c.as_mut_slice-in-Between-2.ensures.value in
    let down = c.in-Between.down in
    let low = subst (AreWithin row columns) c.in-Between.is c.requires.within in
    let old : (ℕ → ℕ) → ℕ = λ share. gathered share columns slice + demand * worth share columns down in
    let all : (ℕ → ℕ) → ℕ = λ share.
    summed_with row columns sums share + demand * shares_of share (legs_of row columns listed c.args.found) in
    on_err-map c.hold-in-Between.result (IsFull columns slice down demand) (IsOver legs all)
    (λ full. over_more legs old all
    (λ share. omega (
      arith,
      ap (gathered share columns) value,
      between_worth share row columns listed c.args.found c.in-Between.up down demand c.in-Between.is,
    ))
    (full_over legs columns c.requires.sums.column_steps slice down demand (ap length value ∙ c.requires.sums.column_long) low.1 full))
    c.hold-in-Between.ensures.full
