-- The route is that of the pair, in the direction of the kept places, and its values are the kept ones.
use Rattle.std.proofs.Common.{◌≡◌, ◌∙◌, Option, Some, sym, ap, subst}
use Rattle.std.specs.Prelude.{MatchOption, option_map, ⊤}
use Rattle.std.specs.Arc.{arc_value}
use Rattle.std.proofs.lemmas.List.{get_or_read}
use Rattle.ch_hierarchy.specs.Hierarchy.{LevelsAndLegs}
use Rattle.ch_rows.specs.Searched.{Asked}
use Rattle.ch_engine.specs.Held.{Held}
use Rattle.ch_engine.specs.LegSums.{values_of}
use Rattle.ch_engine.specs.Lines.{Lines}
use Rattle.ch_engine.specs.RouteSums.{IsOfSomePair, IsSumAlong}
use Rattle.ch_engine.proofs.NearTrees.{AreAsked, along_kept, ends_told, mapped, place_low, route_told, route_too_large}
use Rattle.ch_engine.proofs.engine.Engine.sum_of_route.Goals as goal

pub sum_along-requires-clause-route : goal.sum_along-requires-clause-route
sum_along-requires-clause-route c =
    let whole = c.self-2.view_is ∙ c.find_route.ensures.same in
    let hierarchy : c.deref.result.now.0 ≡ c.args.self.now.hierarchy =
    ap (λ (n : LevelsAndLegs × Lines). n.0) c.deref.ensures ∙ ap (λ (h : Held). h.hierarchy) whole in
    subst (λ (H : LevelsAndLegs). IsOfSomePair H c.in-Ok.answer) (sym hierarchy)
    (c.ends_in-from.result.0, c.ends_in-from.result.1, c.in-Ok.ensures.route.walk)

pub returns-in-Some-sum_along-clause-sum : goal.returns-in-Some-sum_along-clause-sum
returns-in-Some-sum_along-clause-sum c =
    let held = c.args.self.now in
    let s = c.args.source in
    let pair = c.args.pair in
    let answer = c.in-Ok.answer in
    let kept = values_of (arc_value c.in-Some.kept) in
    let direction = c.self.inside.direction in
    let places = c.self.inside.places.items in
    let whole = c.self-2.view_is ∙ c.find_route.ensures.same in
    let network : c.deref.result.now ≡ (held.hierarchy, held.lines) = c.deref.ensures ∙ ap (λ (h : Held). (h.hierarchy, h.lines)) whole in
    let known : held.values ≡ Some kept =
    sym (ap (λ (h : Held). h.values) whole) ∙ ap (option_map (λ sums. values_of (arc_value sums))) c.in-Some.is in
    let list : c.deref-3.result.now ≡ kept = c.deref-3.ensures.value ∙ ap values_of c.deref-2.ensures in
    let asked : MatchOption held.near ⊤ (AreAsked direction places) =
    subst (λ (o : Option Asked). MatchOption o ⊤ (AreAsked direction places))
    (ap (λ (h : Held). h.near) c.self.view_is) (mapped (AreAsked direction places) c.self.inside.kept c.self.invariant.3) in
    let low = place_low held s pair direction places c.requires.pair asked in
    let ends = ends_told held.near direction places s pair.1 c.index-node.result.now c.ends_in-from.result asked
    (get_or_read places _ _ low c.index-node.ensures 0) c.ends_in-from.ensures in
    let sum = c.in-Some-sum_along.sum in
    let summed = c.in-Some-sum_along.ensures in
    route_told held c.requires.lines s c.requires.source pair.1 pair.0 c.requires.pair c.ends_in-from.result.0 c.ends_in-from.result.1
    answer sum ends c.in-Ok.ensures.route (along_kept held c.deref.result.now kept c.deref-3.result.now answer sum network known list
    (subst (IsSumAlong c.deref.result.now.0 c.deref.result.now.1 c.deref-3.result.now answer) (sym summed.2) summed.1))

pub returns-clause-refused : goal.returns-clause-refused
returns-clause-refused c =
    let held = c.args.self.now in
    let s = c.args.source in
    let pair = c.args.pair in
    let answer = c.in-Ok.answer in
    let kept = values_of (arc_value c.in-Some.kept) in
    let direction = c.self.inside.direction in
    let places = c.self.inside.places.items in
    let whole = c.self-2.view_is ∙ c.find_route.ensures.same in
    let network : c.deref.result.now ≡ (held.hierarchy, held.lines) = c.deref.ensures ∙ ap (λ (h : Held). (h.hierarchy, h.lines)) whole in
    let known : held.values ≡ Some kept =
    sym (ap (λ (h : Held). h.values) whole) ∙ ap (option_map (λ sums. values_of (arc_value sums))) c.in-Some.is in
    let list : c.deref-3.result.now ≡ kept = c.deref-3.ensures.value ∙ ap values_of c.deref-2.ensures in
    let asked : MatchOption held.near ⊤ (AreAsked direction places) =
    subst (λ (o : Option Asked). MatchOption o ⊤ (AreAsked direction places))
    (ap (λ (h : Held). h.near) c.self.view_is) (mapped (AreAsked direction places) c.self.inside.kept c.self.invariant.3) in
    let low = place_low held s pair direction places c.requires.pair asked in
    let ends = ends_told held.near direction places s pair.1 c.index-node.result.now c.ends_in-from.result asked
    (get_or_read places _ _ low c.index-node.ensures 0) c.ends_in-from.ensures in
    let summed = c.in-None.ensures in
    route_too_large held c.requires.lines s c.requires.source pair.1 pair.0 c.requires.pair c.ends_in-from.result.0
    c.ends_in-from.result.1 answer summed.0 ends c.in-Ok.ensures.route
    (along_kept held c.deref.result.now kept c.deref-3.result.now answer summed.0 network known list summed.1) summed.2
