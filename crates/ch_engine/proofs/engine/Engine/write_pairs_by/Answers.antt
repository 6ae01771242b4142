-- One more pair has its weight and the sum along its route, and the pairs before it stay as they are.
use Rattle.std.specs.Prelude.{MatchOption, ⊤}
use Rattle.std.proofs.Common.{◌≡◌, ◌∙◌, ◌<◌, ℕ, Option, length, slice_index, sym, ap, subst, arith}
use Rattle.std.proofs.lemmas.List.{length-set}
use Rattle.ch_hierarchy.specs.Hierarchy.{LevelsAndLegs, nodes_of}
use Rattle.ch_engine.specs.Held.{Held}
use Rattle.ch_engine.specs.Lines.{IsOfSome, Lines}
use Rattle.ch_engine.specs.Routes.{IsFound}
use Rattle.ch_engine.specs.RouteSums.{IsOfSomePair, IsPairSum, IsSumAlong}
use Rattle.ch_engine.proofs.NearRows.{set_stays}
use Rattle.ch_engine.proofs.RouteSums.{pairs_more}
use Rattle.ch_engine.proofs.engine.Engine.write_pairs_by.Goals as goal

pub sum_along-requires-clause-route : goal.sum_along-requires-clause-route
sum_along-requires-clause-route c =
    let l = c.loop-i in
    let held = c.args.self.now in
    let s = slice_index c.args.sources.now l.i in
    let t = slice_index c.args.targets.now l.i in
    let answer = c.in-Ok.answer in
    let found : IsFound held.hierarchy s t answer =
    subst (λ (h : Held). IsFound h.hierarchy s t answer) l.invariant.same c.in-Ok.ensures.route in
    let whole = c.self.view_is ∙ c.find_route.ensures.same ∙ l.invariant.same in
    let hierarchy : c.deref.result.now.0 ≡ held.hierarchy =
    ap (λ (n : LevelsAndLegs × Lines). n.0) c.deref.ensures ∙ ap (λ (h : Held). h.hierarchy) whole in
    subst (λ (H : LevelsAndLegs). IsOfSomePair H answer) (sym hierarchy) (s, t, found.walk)

pub sum_along-requires-clause-kept : goal.sum_along-requires-clause-kept
sum_along-requires-clause-kept c =
    let whole = c.self.view_is ∙ c.find_route.ensures.same ∙ c.loop-i.invariant.same in
    let network : c.deref.result.now ≡ (c.args.self.now.hierarchy, c.args.self.now.lines) =
    c.deref.ensures ∙ ap (λ (h : Held). (h.hierarchy, h.lines)) whole in
    subst (λ (n : LevelsAndLegs × Lines). IsOfSome n.0 n.1) (sym network) c.requires.kept

pub write_pair-requires : goal.write_pair-requires
write_pair-requires c =
    let v = c.loop-i.invariant in
    (omega (arith, v.weighed, c.requires.lengths.1, c.loop-i-test.true), omega (arith, v.long, c.requires.lengths.2, c.loop-i-test.true))

pub loop-i-preserved : goal.loop-i-preserved
loop-i-preserved c =
    let l = c.loop-i in
    let v = l.invariant in
    let i = l.i in
    let held = c.args.self.now in
    let values = c.args.values.now in
    let s = slice_index c.args.sources.now i in
    let t = slice_index c.args.targets.now i in
    let answer = c.in-Ok.answer in
    let weight = c.weight_of.result in
    let sum = c.in-Some-sum_along.sum in
    let found : IsFound held.hierarchy s t answer = subst (λ (h : Held). IsFound h.hierarchy s t answer) v.same c.in-Ok.ensures.route in
    let whole = c.self.view_is ∙ c.find_route.ensures.same ∙ v.same in
    let hierarchy : c.deref.result.now.0 ≡ held.hierarchy =
    ap (λ (n : LevelsAndLegs × Lines). n.0) c.deref.ensures ∙ ap (λ (h : Held). h.hierarchy) whole in
    let own : c.deref.result.now.1 ≡ held.lines =
    ap (λ (n : LevelsAndLegs × Lines). n.1) c.deref.ensures ∙ ap (λ (h : Held). h.lines) whole in
    let summed = c.in-Some-sum_along.ensures in
    let along : IsSumAlong c.deref.result.now.0 c.deref.result.now.1 values answer sum =
    subst (IsSumAlong c.deref.result.now.0 c.deref.result.now.1 values answer) (sym summed.2) summed.1 in
    let here : IsSumAlong held.hierarchy held.lines values answer sum =
    subst (λ (ls : Lines). IsSumAlong held.hierarchy ls values answer sum) own
    (subst (λ (H : LevelsAndLegs). IsSumAlong H c.deref.result.now.1 values answer sum) hierarchy along) in
    let weighs : i < length l.weights = omega (arith, v.weighed, c.requires.lengths.1, c.loop-i-test.true) in
    let inside : i < length l.sums = omega (arith, v.long, c.requires.lengths.2, c.loop-i-test.true) in
    rw c.write_pair-in-loop-i.ensures.weights (rw c.write_pair-in-loop-i.ensures.sums (record {
      trees = c.sum_by.ensures.trees held.hierarchy held.lines values v.trees;
      same = c.find_route.ensures.same ∙ v.same;
      weighed = length-set l.weights i weight ∙ v.weighed;
      long = length-set l.sums i sum ∙ v.long;
      behind = (set_stays c.args.weights.now l.weights i weight v.behind.0, set_stays c.args.sums.now l.sums i sum v.behind.1);
      summed = pairs_more held c.args.sources.now c.args.targets.now values l.weights l.sums i weight sum v.summed weighs inside
          (answer, found, c.weight_of.ensures, here);
    }))

pub loop-i-preserved-in-Some : goal.loop-i-preserved-in-Some
loop-i-preserved-in-Some c =
    let l = c.loop-i in
    let v = l.invariant in
    let i = l.i in
    let held = c.args.self.now in
    let values = c.args.values.now in
    let s = slice_index c.args.sources.now i in
    let t = slice_index c.args.targets.now i in
    let weight = c.in-Some.weight in
    let sum = c.in-Some.sum in
    let weighs : i < length l.weights = omega (arith, v.weighed, c.requires.lengths.1, c.loop-i-test.true) in
    let inside : i < length l.sums = omega (arith, v.long, c.requires.lengths.2, c.loop-i-test.true) in
    let low : t < nodes_of held.hierarchy = c.requires.targets i 0 (omega (arith, c.requires.lengths.0, c.loop-i-test.true)) in
    let told = subst (λ (o : Option (ℕ × ℕ)). MatchOption o ⊤ (λ found. IsPairSum held values s t found.0 found.1)) c.in-Some.is
    (c.sum_by.ensures.sum held.hierarchy held.lines values v.trees c.requires.kept low) in
    rw c.write_pair.ensures.weights (rw c.write_pair.ensures.sums (record {
      trees = c.sum_by.ensures.trees held.hierarchy held.lines values v.trees;
      same = v.same;
      weighed = length-set l.weights i weight ∙ v.weighed;
      long = length-set l.sums i sum ∙ v.long;
      behind = (set_stays c.args.weights.now l.weights i weight v.behind.0, set_stays c.args.sums.now l.sums i sum v.behind.1);
      summed = pairs_more held c.args.sources.now c.args.targets.now values l.weights l.sums i weight sum v.summed weighs inside
          told;
    }))
