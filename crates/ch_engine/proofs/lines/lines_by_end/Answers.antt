-- The pairs of an end and a line, one for each arc, make a row of lines for each node.
use Rattle.std.proofs.Common.{◌≡◌, ◌∙◌, ℕ, ◌+◌, ◌<◌, List, [], ◌∷◌, ◌++◌, All, length, map, sym, ap, subst, arith}
use Rattle.std.specs.Prelude.{IfOk}
use Rattle.std.specs.List.{range_with_len}
use Rattle.std.proofs.lemmas.List.FromFn.{map-range_with_len_more}
use Rattle.ch_graph.specs.declared.arc.InArc.{InArc}
use Rattle.ch_graph.specs.Rows.{AreRowsOf}
use Rattle.ch_graph.specs.Sorting.{with_key}
use Rattle.ch_engine.specs.Lines.{arc_on, ended_lines, near_end}
use Rattle.ch_engine.proofs.SeenLines.{ended_low}
use Rattle.ch_engine.proofs.lines.lines_by_end.Goals as goal

pub build-requires : goal.build-requires
build-requires c =
    let g = c.args.graph.now in
    let side = c.args.side in
    let arcs = c.arcs-arcs.result.now in
    let end : c.loop-line.line ≡ length arcs = omega (arith, c.loop-line-test.false, c.loop-line.auto.line-end) in
    let is : c.deref.result.now ≡ ended_lines side g.arcs =
    c.deref.ensures.value ∙ c.loop-line.invariant
    ∙ ap (λ (n : ℕ). map (with_key (λ line. near_end side (arc_on arcs line))) (range_with_len 0 n)) end
    ∙ ap (λ (them : List InArc). ended_lines side them) c.arcs-arcs.ensures.arcs in
    subst (λ (n : ℕ). All (λ (p : ℕ × ℕ). p.0 < n) c.deref.result.now) (sym c.nodes.ensures.nodes)
    (subst (All (λ (p : ℕ × ℕ). p.0 < g.nodes)) (sym is) (ended_low g c.arcs-arcs.ensures.limits side))

pub returns : goal.returns
returns c =
    let g = c.args.graph.now in
    let side = c.args.side in
    let arcs = c.arcs-arcs.result.now in
    let end : c.loop-line.line ≡ length arcs = omega (arith, c.loop-line-test.false, c.loop-line.auto.line-end) in
    let is : c.deref.result.now ≡ ended_lines side g.arcs =
    c.deref.ensures.value ∙ c.loop-line.invariant
    ∙ ap (λ (n : ℕ). map (with_key (λ line. near_end side (arc_on arcs line))) (range_with_len 0 n)) end
    ∙ ap (λ (them : List InArc). ended_lines side them) c.arcs-arcs.ensures.arcs in
    subst (λ (q : List (ℕ × ℕ)). IfOk c.build.result (AreRowsOf g.nodes q)) is
    (subst (λ (n : ℕ). IfOk c.build.result (AreRowsOf n c.deref.result.now)) c.nodes.ensures.nodes c.build.ensures)

pub loop-line-preserved : goal.loop-line-preserved
loop-line-preserved c =
    let l = c.loop-line in
    let f : ℕ → ℕ = λ line. near_end c.args.side (arc_on c.arcs-arcs.result.now line) in
    let none : 0 + l.line ≡ l.line = omega arith in
    (c.in_ok-push.ensures {u = tt}).items
    ∙ ap (λ (ps : List (ℕ × ℕ)). ps ++ (c.near_end.result, l.line) ∷ []) l.invariant
    ∙ ap (λ (e : ℕ). map (with_key f) (range_with_len 0 l.line) ++ (e, l.line) ∷ []) c.near_end.ensures
    ∙ sym (map-range_with_len_more (with_key f) 0 l.line l.line none)
