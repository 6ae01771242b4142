-- One more leg gives a step where it is the first, and at the end all legs of the entry were taken.
use Rattle.std.proofs.Common.{◌≡◌, ◌<◌, ℕ, List, length, ◌∙◌, ap, subst, arith}
use Rattle.ch_hierarchy.specs.declared.leg.Leg.{Leg as AnyLeg}
use Rattle.ch_hierarchy.specs.Rows.{row as the_row_of}
use Rattle.ch_hierarchy.specs.Side.{rows_of}
use Rattle.ch_flows.specs.Layouts.{leg_on}
use Rattle.ch_flows.specs.Trees.{IsLegAt, IsSlotWithin, IsTaken, entry_at, step_at}
use Rattle.ch_flows.proofs.Trees.{leg_spot, slot_ends, slot_goes_on}
use Rattle.ch_flows.proofs.tree.take_legs.Goals as goal

pub loop-k-preserved : goal.loop-k-preserved
loop-k-preserved c =
    let H = c.args.hierarchy.now in
    let side = c.args.side in
    let links = c.args.layout.now.links.items in
    let starts = c.args.layout.now.starts.items in
    let entries = c.args.entries.now in
    let place = c.args.place in
    let l = c.loop-k in
    let legs = the_row_of (rows_of H side) (entry_at entries place).0 in
    let p = c.spot-leg_place.result in
    let same : c.legs-legs.result.now ≡ legs = c.legs-legs.ensures.row in
    let low : l.k < length legs = subst (λ (them : List AnyLeg). l.k < length them) same c.loop-k-test.true in
    let at : IsLegAt side links (entry_at entries place).0 (leg_on legs l.k) p =
    leg_spot side H starts links c.requires.laid (entry_at entries place).0 l.k p c.spot-leg_place.ensures.spot
    c.spot-leg_place.ensures.place in
    record {
      long = c.take_leg.ensures.long ∙ l.invariant.long;
      slots = λ slots i inside.
          let taken : IsTaken entries place (leg_on legs l.k) p i (step_at l.steps i) (step_at c.take_leg.new.steps i) =
          subst (λ (them : List AnyLeg). IsTaken entries place (leg_on them l.k) p i (step_at l.steps i)
          (step_at c.take_leg.new.steps i)) same (c.take_leg.ensures.taken i inside) in
          slot_goes_on side H links entries place i l.k p (step_at l.steps i) (step_at c.take_leg.new.steps i) low
          at (l.invariant.slots slots i inside) taken;
    }

pub returns-clause-slots : goal.returns-clause-slots
returns-clause-slots c = λ slots i inside.
    let H = c.args.hierarchy.now in
    let side = c.args.side in
    let links = c.args.layout.now.links.items in
    let entries = c.args.entries.now in
    let place = c.args.place in
    let legs = the_row_of (rows_of H side) (entry_at entries place).0 in
    let size = ap (λ (them : List AnyLeg). length them) c.legs-legs.ensures.row in
    let end : c.loop-k.k ≡ length legs = omega (arith, size, c.loop-k-test.false, c.loop-k.auto.k-end) in
    slot_ends side H links entries place i (step_at c.loop-k.steps i)
    (subst (λ (n : ℕ). IsSlotWithin side H links entries place n i (step_at c.loop-k.steps i)) end
    (c.loop-k.invariant.slots slots i inside))
