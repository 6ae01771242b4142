-- The sum along an answer is that on the lines of its route's arcs, or zero if there is no route.
use Rattle.std.proofs.Common.{◌≡◌, ◌∙◌, List, Option, Some, refl, sym, ap, subst}
use Rattle.ch_graph.specs.declared.arc.InArc.{InArc}
use Rattle.ch_query.specs.declared.routes.Route.{Route}
use Rattle.ch_engine.specs.RouteSums.{AreLinesAlong, IsOfSomePair, IsSumAlong, sum_on}
use Rattle.ch_engine.proofs.network.Network.sum_along.Goals as goal

pub sum_of-requires-clause-route : goal.sum_of-requires-clause-route
sum_of-requires-clause-route c =
    let H = c.args.self.now.0 in
    let weight = c.in-Some.route.weight in
    let arcs : c.as_slice.result.now ≡ c.in-Some.route.arcs = c.as_slice.ensures.value ∙ ap (λ (r : Route). r.arcs) c.route.view_is in (
      weight,
      subst (λ (xs : List InArc). IsOfSomePair H (Some (record { weight = weight; arcs = xs }))) (sym arcs)
          (subst (IsOfSomePair H) c.in-Some.is c.requires.route),
    )

pub returns-in-Some : goal.returns-in-Some
returns-in-Some c =
    let v = c.args.self.now in
    let values = c.args.values.now in
    let found = c.sum_of.ensures in
    let sum = sum_on values found.0 in
    let arcs : c.as_slice.result.now ≡ c.in-Some.route.arcs = c.as_slice.ensures.value ∙ ap (λ (r : Route). r.arcs) c.route.view_is in
    let along : AreLinesAlong v.0 v.1 c.in-Some.route.arcs found.0 =
    subst (λ (xs : List InArc). AreLinesAlong v.0 v.1 xs found.0) arcs found.1 in
    (sum, subst (λ (answer : Option Route). IsSumAlong v.0 v.1 values answer sum) (sym c.in-Some.is) (found.0, along, refl), found.2)
