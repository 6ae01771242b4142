-- Each arc of a route has a line with a value, which one more arc adds to the total.
use Rattle.std.proofs.Common.{◌+◌, ℕ, [], ◌∷◌, ◌++◌, get_or, Some, sym, subst, arith}
use Rattle.std.proofs.lemmas.List.{get_or_default, length-append}
use Rattle.std.proofs.lemmas.List.Sums.{sum_by_push}
use Rattle.ch_graph.specs.declared.arc.InArc.{InArc}
use Rattle.ch_query.specs.declared.routes.Route.{Route}
use Rattle.ch_engine.specs.Lines.{IsOfSome}
use Rattle.ch_engine.specs.Routes.{IsArcLine}
use Rattle.ch_engine.specs.RouteSums.{IsTotal, sum_on}
use Rattle.ch_engine.proofs.RouteLines.{arc_line, route_ends}
use Rattle.ch_engine.proofs.RouteSums.{along_more, line_low}
use Rattle.ch_engine.proofs.network.Network.sum_of.Goals as goal

pub line_of-line-requires : goal.line_of-line-requires
line_of-line-requires c =
    let v = c.args.self.now in
    let of : IsOfSome v.0 v.1 = c.requires.kept in
    let some = c.requires.route in
    route_ends v.0 v.1 of some.1.0 some.1.1 (Some (record { weight = some.0; arcs = c.args.arcs.now })) some.1.2 c.loop-j.j
    (record { from = 0; to = 0; weight = 0 }) c.loop-j-test.true

pub value_on-requires : goal.value_on-requires
value_on-requires c =
    let v = c.args.self.now in
    let some = c.requires.route in
    let route : Route = record { weight = some.0; arcs = c.args.arcs.now } in
    let none : InArc = record { from = 0; to = 0; weight = 0 } in
    let low = line_low v.0 v.1 c.requires.kept (get_or c.args.arcs.now c.loop-j.j none) c.line_of-line.result
    (arc_line v.0 v.1 some.1.0 some.1.1 route some.1.2 c.loop-j.j none c.loop-j-test.true c.line_of-line.result
    c.line_of-line.ensures) in
    omega (arith, low, c.requires.values)

pub loop-j-preserved : goal.loop-j-preserved
loop-j-preserved c =
    let v = c.args.self.now in
    let some = c.requires.route in
    let arcs = c.args.arcs.now in
    let values = c.args.values.now in
    let route : Route = record { weight = some.0; arcs = arcs } in
    let none : InArc = record { from = 0; to = 0; weight = 0 } in
    let l = c.loop-j in
    let before = l.invariant in
    let line = c.line_of-line.result in
    let here : IsArcLine v.0 v.1 (get_or arcs l.j none) line =
    arc_line v.0 v.1 some.1.0 some.1.1 route some.1.2 l.j none c.loop-j-test.true line c.line_of-line.ensures in
    let each : (d : InArc) → IsArcLine v.0 v.1 (get_or arcs l.j d) line =
    λ d. subst (λ (a : InArc). IsArcLine v.0 v.1 a line) (get_or_default arcs l.j none d c.loop-j-test.true) here in
    let value : ℕ → ℕ = λ line. get_or values line 0 in (
      before.0 ++ line ∷ [],
      omega (arith, length-append before.0 (line ∷ []), before.1),
      along_more v.0 v.1 arcs l.j before.0 line before.1 before.2 each,
      subst (λ (n : ℕ). IsTotal n c.plus-sum.result) (sym (sum_by_push value before.0 line))
          (subst (λ (n : ℕ). IsTotal (sum_on values before.0 + n) c.plus-sum.result) c.value_on.ensures
          (c.plus-sum.ensures (sum_on values before.0) before.3)),
    )
