-- One more touched node is listed with its cost, so in the end all reached nodes are, in order.
use Rattle.std.proofs.Common.{◌∙◌, get_or, refl, ap, map, take_all, arith}
use Rattle.std.specs.Prelude.{vec_capacity}
use Rattle.ch_query.specs.ByNode.{costs_of}
use Rattle.ch_query.specs.Spread.{entry}
use Rattle.ch_query.proofs.one_side.Spreads.{node_known, reached_within, read_cost, listed_step, unknown}
use Rattle.ch_query.proofs.sides.search.Search.listed.Goals as goal
use Rattle.ch_query.proofs.sides.search.Search.listed.Goals.{in-Some, in_default}

pub rank-requires : goal.rank-requires
rank-requires c =
    let known = node_known _ _ _ _ c.in_ok-nodes.ensures c.deref-node-items.ensures.value c.loop-node-test.true in
    reached_within c.args.hierarchy.now c.args.self.now _ known

pub get-requires : goal.get-requires
get-requires c =
    let within = c.rank.ensures.within in
    let size = c.requires.underway.1.sizes.0 in
    omega arith

pub loop-node-preserved : goal.loop-node-preserved
loop-node-preserved c =
    let H = c.args.hierarchy.now in
    let best = costs_of H c.args.self.now in
    let items = c.deref-node-items.result.now in
    let known = node_known best _ items c.loop-node.node-index c.in_ok-nodes.ensures c.deref-node-items.ensures.value
    c.loop-node-test.true in
    let cost = read_cost H c.args.self.now (get_or items c.loop-node.node-index 0) _ _ known c.rank.ensures.rank c.get.ensures in
    elim c.match-get.branch [
      | in-Some w ↦ (
        listed_step best items items _ _ _ _ _ refl c.loop-node-test.true cost w.in-Some.is c.loop-node.invariant.0
            (ap (λ v. v.items) w.list-is ∙ w.push_reserved.ensures.items),
        (let a = c.loop-node.invariant.1 in let b = w.push_reserved.ensures.capacity in let d = ap vec_capacity w.list-is in omega arith),
      )
      | in_default w ↦ absurd (unknown _ c.get.result cost known w.in_default.not-Some)
    ]

pub returns : goal.returns
returns c =
    let best = costs_of c.args.hierarchy.now c.args.self.now in (
      c.in_ok-nodes.nodes.items,
      c.in_ok-nodes.ensures,
      c.loop-node.invariant.0 ∙ ap (map (entry best)) (take_all _ _ c.loop-node-test.false ∙ c.deref-node-items.ensures.value),
    )
