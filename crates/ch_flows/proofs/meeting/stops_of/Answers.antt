-- The pairs of one more tree, and the rows that all pairs make.
use Rattle.std.proofs.Common.{◌≡◌, ◌<◌, ◌++◌, ℕ, List, [], length, map, All, ap, sym, subst, ◌∙◌, arith}
use Rattle.std.proofs.lemmas.List.{get_or-map, length-map}
use Rattle.ch_flows.specs.declared.tree.Mark.{Mark as AnyMark}
use Rattle.ch_graph.specs.Rows.{AreRowsOf, pairs_at}
use Rattle.ch_flows.specs.Meetings.{ArePairs, kept_of, list_at}
use Rattle.ch_flows.proofs.Results.{if_ok-map}
use Rattle.ch_flows.proofs.Stops.{pairs_low, pairs_more, stops_are}
use Rattle.ch_flows.proofs.meeting.stops_of.Goals as goal

pub loop-c-preserved : goal.loop-c-preserved
loop-c-preserved c =
    let l = c.loop-c in
    let trees = c.args.trees.now in
    let tree = c.index-trees-c.result in
    let list : c.deref.result.now ≡ list_at (map kept_of trees) l.c =
    c.deref.ensures.value ∙ sym (get_or-map kept_of trees l.c tree [] c.loop-c-test.true) in
    pairs_more (map kept_of trees) l.c l.pairs.items c.push_stops.new.pairs.items
    (c.in_ok-push_stops.ensures ∙ ap (λ (es : List (ℕ × AnyMark)). l.pairs.items ++ pairs_at l.c es) list) l.invariant

pub build-requires : goal.build-requires
build-requires c =
    let l = c.loop-c in
    let lists = map kept_of c.args.trees.now in
    let end : l.c ≡ length lists = omega (arith, c.loop-c-test.false, l.auto.c-end, length-map c.args.trees.now kept_of) in
    let are = subst (λ (n : ℕ). ArePairs lists n l.pairs.items) end l.invariant in
    subst (All (λ (p : ℕ × (ℕ × AnyMark)). p.0 < c.args.nodes)) (sym c.deref-2.ensures.value)
    (pairs_low lists l.pairs.items are c.args.nodes c.requires)

pub returns-clause-stops : goal.returns-clause-stops
returns-clause-stops c =
    let l = c.loop-c in
    let lists = map kept_of c.args.trees.now in
    let end : l.c ≡ length lists = omega (arith, c.loop-c-test.false, l.auto.c-end, length-map c.args.trees.now kept_of) in
    let are = subst (λ (n : ℕ). ArePairs lists n l.pairs.items) end l.invariant in
    if_ok-map c.build.result (λ stops made. stops_are lists l.pairs.items are c.args.nodes stops
    (subst (λ (ps : List (ℕ × (ℕ × AnyMark))). AreRowsOf c.args.nodes ps stops) c.deref-2.ensures.value made)) c.build.ensures
