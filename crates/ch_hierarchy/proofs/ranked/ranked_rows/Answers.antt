-- The legs of a levelled hierarchy have ranks, and one more node adds its row up and its row down.
use Rattle.std.proofs.Common.{Contains, ◌++◌, ◌∷◌, [], get_or, map, take, sym, ◌∙◌, ap, subst}
use Rattle.std.proofs.lemmas.List.{take_more}
use Rattle.ch_hierarchy.specs.Ranked.{ranked_in, AreRankedRows}
use Rattle.ch_hierarchy.proofs.code.Ranked.{legs_rankable, more_ranked_rows}
use Rattle.ch_hierarchy.proofs.ranked.ranked_rows.Goals as goal

pub rank_legs-requires-clause-legs : goal.rank_legs-requires-clause-legs
rank_legs-requires-clause-legs c =
    λ l has. legs_rankable _ c.requires.levelled c.args.ups.now c.requires.levelled.up _ l (subst (λ q. Contains q l) c.at.ensures has)

pub rank_legs-requires-in-loop-node-clause-legs : goal.rank_legs-requires-in-loop-node-clause-legs
rank_legs-requires-in-loop-node-clause-legs c = λ l has. legs_rankable _ c.requires.levelled c.args.downs.now
    c.requires.levelled.down _ l (subst (λ q. Contains q l) c.at-in-loop-node.ensures has)

pub loop-node-preserved : goal.loop-node-preserved
loop-node-preserved c =
    let levels = c.args.levels.now in
    let nodes = c.args.nodes.now in
    let i = c.loop-node.node-index in
    let ups = c.args.ups.now in
    let downs = c.args.downs.now in
    let up = c.deref.result.now in
    let down = c.deref-in-loop-node.result.now in
    let rows = c.in_ok-push-2.ensures.ok ∙ ap (λ q. q ++ down ∷ []) c.in_ok-push.ensures.ok in
    let more = more_ranked_rows levels (take i nodes) ups downs c.loop-node.rows (get_or nodes i 0) up down c.loop-node.invariant
    (c.deref.ensures.value ∙ c.in_ok-rank_legs.ensures ∙ ap (map (ranked_in levels)) c.at.ensures)
    (c.deref-in-loop-node.ensures.value ∙ c.in_ok-rank_legs-2.ensures ∙ ap (map (ranked_in levels)) c.at-in-loop-node.ensures) in
    subst (λ q. AreRankedRows levels q ups downs c.push-in-loop-node.new.self) (sym (take_more nodes i 0 c.loop-node-test.true))
    (subst (AreRankedRows levels (take i nodes ++ get_or nodes i 0 ∷ []) ups downs) (sym rows) more)
