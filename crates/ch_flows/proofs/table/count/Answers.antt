-- One more cell is counted: along its way, or as one without a route.
use Rattle.std.proofs.Common.{◌≡◌, ◌+◌, ◌*◌, ◌++◌, [], ◌∷◌, ℕ, List, length, sym, subst, arith, ◌∙◌}
use Rattle.ch_flows.specs.declared.gathering.Branch.{Branch as AnyBranch}
use Rattle.ch_flows.specs.Cells.{summed_with}
use Rattle.ch_flows.specs.Found.{is_way, legs_of}
use Rattle.ch_flows.specs.Gathering.{IsOver}
use Rattle.ch_flows.specs.Handing.{shares_of}
use Rattle.ch_flows.proofs.Plans.{along_too_much, tally_more_by}
use Rattle.ch_flows.proofs.Served.{counted_cell, missing_one, missing_zero, served_more}
use Rattle.ch_flows.proofs.table.count.Goals as goal

-- what holds of the slices holds of the lists
lent : (P : List AnyBranch → List AnyBranch → List ℕ → Type 0) (row columns r c : List AnyBranch) (listed l : List ℕ) → r ≡ row →
    c ≡ columns → l ≡ listed → P r c l → P row columns listed
lent P row columns r c listed l e f g p =
    subst (λ (x : List AnyBranch). P x columns listed) e (subst (λ (x : List AnyBranch). P r x listed) f (subst (P r c) g p))

pub returns-in_default-clause-refused : goal.returns-in_default-clause-refused
returns-in_default-clause-refused c = λ H plan sources targets demands n missed of long low pair counted.
    let row = c.args.row.now.branches.items in
    let columns = c.args.columns.now.branches.items in
    let listed = c.args.way.now.places.items in
    let sums = c.args.sums.now in
    let demand = c.args.demand in
    let answer = pair.0.0 in
    let P : List AnyBranch → List AnyBranch → List ℕ → Type 0 = λ r s l. IsOver (length sums.legs.items)
    (λ share. summed_with r s sums share + demand * shares_of share (legs_of r s l c.args.found)) in
    let over = lent P row columns c.deref-2.result.now c.deref-3.result.now listed c.deref.result.now c.deref-2.ensures.value
    c.deref-3.ensures.value c.deref.ensures.value (c.in_default.ensures {u = tt}).over in (
      n + 1,
      counted.0 ++ (demand, answer) ∷ [],
      omega (arith, low),
      served_more H sources targets demands n counted.0 demand answer counted.1 (sym pair.1) pair.0.2,
      along_too_much H plan.layout.links.items plan.parts.items of.is counted.0 demand answer (legs_of row columns listed c.args.found)
          (summed_with row columns sums) (length sums.legs.items) long counted.2 pair.0.3 over,
    )

pub returns-then-is_way-clause-counted : goal.returns-then-is_way-clause-counted
returns-then-is_way-clause-counted c = λ H plan sources targets demands n missed of pair counted.
    let row = c.args.row.now.branches.items in
    let columns = c.args.columns.now.branches.items in
    let listed = c.args.way.now.places.items in
    let sums = c.args.sums.now in
    let new = c.add_found.new.sums in
    let demand = c.args.demand in
    let links = plan.layout.links.items in
    let answer = pair.0.0 in
    let way = legs_of row columns listed c.args.found in
    let P : List AnyBranch → List AnyBranch → List ℕ → Type 0 = λ r s l. (share : ℕ → ℕ) →
    summed_with r s new share ≡ summed_with r s sums share + demand * shares_of share (legs_of r s l c.args.found) in
    let added = lent P row columns c.deref-2.result.now c.deref-3.result.now listed c.deref.result.now c.deref-2.ensures.value
    c.deref-3.ensures.value c.deref.ensures.value (c.in-Ok.ensures {u = tt}).added in
    let tally = tally_more_by H links plan.parts.items of.is counted.0 demand answer way (summed_with row columns sums)
    (summed_with row columns new) counted.2 pair.0.3 added in
    counted_cell H links sources targets demands n way (is_way c.args.found) demand pair (summed_with row columns sums)
    (summed_with row columns new) missed 0 counted tally (missing_zero answer (sym pair.0.1 ∙ sym c.is_way.ensures ∙ c.if-is_way.true))

pub returns-else-is_way-clause-counted : goal.returns-else-is_way-clause-counted
returns-else-is_way-clause-counted c = λ H plan sources targets demands n missed of pair counted.
    let row = c.args.row.now.branches.items in
    let columns = c.args.columns.now.branches.items in
    let listed = c.args.way.now.places.items in
    let sums = c.args.sums.now in
    let new = c.add_found.new.sums in
    let demand = c.args.demand in
    let links = plan.layout.links.items in
    let answer = pair.0.0 in
    let way = legs_of row columns listed c.args.found in
    let P : List AnyBranch → List AnyBranch → List ℕ → Type 0 = λ r s l. (share : ℕ → ℕ) →
    summed_with r s new share ≡ summed_with r s sums share + demand * shares_of share (legs_of r s l c.args.found) in
    let added = lent P row columns c.deref-2.result.now c.deref-3.result.now listed c.deref.result.now c.deref-2.ensures.value
    c.deref-3.ensures.value c.deref.ensures.value (c.in-Ok.ensures {u = tt}).added in
    let tally = tally_more_by H links plan.parts.items of.is counted.0 demand answer way (summed_with row columns sums)
    (summed_with row columns new) counted.2 pair.0.3 added in
    counted_cell H links sources targets demands n way (is_way c.args.found) demand pair (summed_with row columns sums)
    (summed_with row columns new) missed 1 counted tally (missing_one answer (sym pair.0.1 ∙ sym c.is_way.ensures ∙ c.if-is_way.false))
