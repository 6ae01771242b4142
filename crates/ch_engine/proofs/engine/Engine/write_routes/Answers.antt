-- One more route is behind those before it, with its weight, its end, its nodes and their lines.
use Rattle.std.proofs.Common.{◌≡◌, ◌∙◌, ◌+◌, ◌<◌, ◌≤◌, length, set, slice_index, All, sym, ap, subst, arith}
use Rattle.std.specs.Prelude.{MatchOption, ⊤}
use Rattle.std.proofs.lemmas.List.{get_or-set_same, length-set}
use Rattle.ch_graph.specs.Graph.{HasEnds}
use Rattle.ch_hierarchy.specs.Hierarchy.{LevelsAndLegs, nodes_of}
use Rattle.ch_query.specs.declared.routes.Route.{Route}
use Rattle.ch_engine.specs.Held.{Held}
use Rattle.ch_engine.specs.Lines.{Lines}
use Rattle.ch_engine.specs.Routes.{AreNoted, IsFound, nodes_from}
use Rattle.ch_engine.proofs.NearRows.{begin_next, ends_low, set_stays, stays_more}
use Rattle.ch_engine.proofs.RouteLines.{route_lines}
use Rattle.ch_engine.proofs.Ways.{routes_more}
use Rattle.ch_engine.proofs.engine.Engine.write_routes.Goals as goal

pub note_route-requires-clause-ends : goal.note_route-requires-clause-ends
note_route-requires-clause-ends c =
    let v = c.loop-i.invariant in
    let answer = c.in-Ok.answer in
    let hierarchy : c.deref.result.now.0 ≡ c.args.self.now.hierarchy =
    ap (λ (n : LevelsAndLegs × Lines). n.0) c.deref.ensures
    ∙ ap (λ (h : Held). h.hierarchy) (c.self.view_is ∙ c.find_route.ensures.same ∙ v.same) in
    subst (λ (G : LevelsAndLegs). MatchOption answer ⊤ (λ (route : Route). All (HasEnds (nodes_of G)) route.arcs)) (sym hierarchy)
    (subst (λ (h : Held). MatchOption answer ⊤ (λ (route : Route). All (HasEnds (nodes_of h.hierarchy)) route.arcs)) v.same
    c.in-Ok.ensures.ends)

pub loop-i-preserved : goal.loop-i-preserved
loop-i-preserved c =
    let l = c.loop-i in
    let v = l.invariant in
    let i = l.i in
    let held = c.args.self.now in
    let H = held.hierarchy in
    let lines = c.note_route.new.lines in
    let s = slice_index c.args.sources.now i in
    let t = slice_index c.args.targets.now i in
    let answer = c.in-Ok.answer in
    let way = nodes_from s answer in
    let nodes = c.write_way.new.nodes in
    let weight = c.weight_of.result in
    let size : c.size_of-size.result ≡ length way = c.size_of-size.ensures in
    let end = l.begin + length way in
    let found : IsFound H s t answer = subst (λ (held : Held). IsFound held.hierarchy s t answer) v.same c.in-Ok.ensures.route in
    let whole = c.self.view_is ∙ c.find_route.ensures.same ∙ v.same in
    let hierarchy : c.deref.result.now.0 ≡ H =
    ap (λ (n : LevelsAndLegs × Lines). n.0) c.deref.ensures ∙ ap (λ (h : Held). h.hierarchy) whole in
    let own : c.deref.result.now.1 ≡ held.lines =
    ap (λ (n : LevelsAndLegs × Lines). n.1) c.deref.ensures ∙ ap (λ (h : Held). h.lines) whole in
    let noted : AreNoted H held.lines answer l.begin lines =
    subst (λ (ls : Lines). AreNoted H ls answer l.begin lines) own
    (subst (λ (G : LevelsAndLegs). AreNoted G c.deref.result.now.1 answer l.begin lines) hierarchy c.note_route.ensures.lines) in
    let weighs : i < length l.weights = omega (arith, v.weighed, c.requires.lengths.1, c.loop-i-test.true) in
    let inside : i < length l.ends = omega (arith, v.as_many, c.requires.lengths.2, c.loop-i-test.true) in
    let fits : l.begin + length way ≤ length l.nodes = omega (arith, c.if-size-nodes.false, size, v.fits) in
    rw size (record {
      same = c.find_route.ensures.same ∙ v.same;
      weighed = length-set l.weights i weight ∙ v.weighed;
      as_many = length-set l.ends i end ∙ v.as_many;
      long = c.write_way.ensures.room ∙ v.long;
      wide = c.note_route.ensures.room ∙ v.wide;
      here = sym (begin_next (set l.ends i end) i ∙ get_or-set_same l.ends i end 0 inside);
      low = ends_low l.ends i l.begin end v.low (omega arith) inside;
      fits = omega (arith, fits, c.write_way.ensures.room);
      rest = (set_stays c.args.weights.now l.weights i weight v.rest.0, set_stays c.args.ends.now l.ends i end v.rest.1);
      behind = (
        stays_more c.args.nodes.now l.nodes nodes l.begin end v.behind.0 (omega arith) c.write_way.ensures.behind,
        stays_more c.args.lines.now l.lines lines l.begin end v.behind.1 (omega arith) c.note_route.ensures.behind,
      );
      routes = routes_more held c.args.sources.now c.args.targets.now l.weights l.ends l.nodes nodes l.lines lines i l.begin
          v.routes v.here v.low weighs inside c.write_way.ensures.before c.write_way.ensures.room
          c.note_route.ensures.before c.note_route.ensures.room answer found weight c.weight_of.ensures fits
          c.write_way.ensures.holds (route_lines H held.lines s t answer found.walk l.begin lines noted);
    })
