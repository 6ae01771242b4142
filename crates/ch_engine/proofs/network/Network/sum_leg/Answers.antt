-- A leg without a middle has the value on its line, and a leg with one the sum of both halves.
use Rattle.std.proofs.Common.{◌≡◌, ℕ, sym, subst}
use Rattle.ch_hierarchy.specs.declared.leg.Leg.{Leg as AnyLeg}
use Rattle.ch_hierarchy.specs.Hierarchy.{LevelsAndLegs}
use Rattle.ch_hierarchy.specs.declared.side.Side.{Side as AnySide}
use Rattle.ch_engine.specs.LegSums.{AreLegSums, IsLegSum, IsRowLegSum}
use Rattle.ch_engine.specs.Lines.{IsLineBy, head_of, tail_of}
use Rattle.ch_engine.proofs.LegSums.{arc_sum}
use Rattle.ch_engine.proofs.network.Network.sum_leg.Goals as goal

pub returns-in-None : goal.returns-in-None
returns-in-None c = λ known.
    let v = c.args.self.now in
    let side = c.args.side in
    let node = c.args.node in
    let leg = c.args.leg in
    let line = c.line_of_leg.result in
    let is : IsLineBy v.0 v.1 (tail_of side node leg.node) (head_of side node leg.node) line =
    subst (λ (l : AnyLeg). IsLineBy v.0 v.1 (tail_of side node l.node) (head_of side node l.node) line) (sym c.requires.leg)
    c.line_of_leg.ensures in
    subst (λ (n : ℕ). IsRowLegSum side v.0 v.1 c.args.values.now node leg n) (sym c.value_or_zero.ensures)
    (arc_sum v.0 v.1 c.args.values.now (tail_of side node leg.node) (head_of side node leg.node) leg line c.in-None.is is)

pub returns-in-Up : goal.returns-in-Up
returns-in-Up c = λ known.
    let v = c.args.self.now in
    let values = c.args.values.now in
    let node = c.args.node in
    let leg = c.args.leg in
    let same : c.hierarchy.result.now ≡ v.0 = c.hierarchy.ensures.same in
    let sums : AreLegSums c.hierarchy.result.now v.1 values c.args.sums.now =
    subst (λ (G : LevelsAndLegs). AreLegSums G v.1 values c.args.sums.now) (sym same) c.requires.sums in
    let is : IsLegSum v.0 v.1 values node leg.node leg c.through.result =
    subst (λ (G : LevelsAndLegs). IsLegSum G v.1 values node leg.node leg c.through.result) same
    (c.through.ensures v.1 values leg sums c.in-Some.is known) in
    subst (λ (d : AnySide). IsRowLegSum d v.0 v.1 values node leg c.through.result) (sym c.in-Up.is) is

pub returns-in-Down : goal.returns-in-Down
returns-in-Down c = λ known.
    let v = c.args.self.now in
    let values = c.args.values.now in
    let node = c.args.node in
    let leg = c.args.leg in
    let same : c.hierarchy-in-Down.result.now ≡ v.0 = c.hierarchy-in-Down.ensures.same in
    let sums : AreLegSums c.hierarchy-in-Down.result.now v.1 values c.args.sums.now =
    subst (λ (G : LevelsAndLegs). AreLegSums G v.1 values c.args.sums.now) (sym same) c.requires.sums in
    let is : IsLegSum v.0 v.1 values leg.node node leg c.through-in-Down.result =
    subst (λ (G : LevelsAndLegs). IsLegSum G v.1 values leg.node node leg c.through-in-Down.result) same
    (c.through-in-Down.ensures v.1 values leg sums c.in-Some.is known) in
    subst (λ (d : AnySide). IsRowLegSum d v.0 v.1 values node leg c.through-in-Down.result) (sym c.in-Down.is) is
