-- A branch meets the stops at the slot of its node, or none if it has no slot.
use Rattle.std.proofs.Common.{◌≡◌, ℕ, List, [], get_or, length, sym, ◌∙◌, subst, arith}
use Rattle.std.specs.Prelude.{All}
use Rattle.std.proofs.lemmas.Option.{same_Some}
use Rattle.ch_engine.specs.declared.sum_meets.Stop.{Stop}
use Rattle.ch_engine.specs.TableSums.{AreStopsOf, CoverStops, IsStopWithin}
use Rattle.ch_engine.proofs.sum_meets.meet_branch.Goals as goal

pub row-requires : goal.row-requires
row-requires c =
    let slot = (c.slot.ensures c.in-Some.slot).1 c.in-Some.is in
    omega (arith, slot.0, c.requires.count)

pub meet_stops-requires-clause-stops : goal.meet_stops-requires-clause-stops
meet_stops-requires-clause-stops c =
    subst (All (IsStopWithin (length c.args.row.now))) (sym c.row.ensures) (c.requires.stops c.in-Some.slot)

pub returns-clause-covers : goal.returns-clause-covers
returns-clause-covers c = λ i has.
    let branch = c.args.branch in
    let rows = c.args.stops.now.rows in
    let new = c.meet_stops.new.row in
    let same : c.in-Some.slot ≡ i = same_Some c.in-Some.slot i (sym c.in-Some.is ∙ (c.slot.ensures i).0 has) in
    subst (λ (n : ℕ). CoverStops branch.node branch.cost (get_or rows n []) (length (get_or rows n [])) new) same
    (subst (λ (l : List Stop). CoverStops branch.node branch.cost l (length l) new) c.row.ensures c.meet_stops.ensures.covers)

pub returns-clause-offers : goal.returns-clause-offers
returns-clause-offers c = λ H lines values targets s size branch at are.
    let slot = (c.slot.ensures c.in-Some.slot).1 c.in-Some.is in
    let node = c.args.branch.node in
    c.meet_stops.ensures.offers H lines values targets s size branch
    (subst (AreStopsOf H lines values targets node) (sym c.row.ensures)
    (subst (λ (v : ℕ). AreStopsOf H lines values targets v (get_or c.args.stops.now.rows c.in-Some.slot [])) slot.1
    (at.sound c.in-Some.slot))) are
