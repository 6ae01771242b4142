-- Each touched rank has its node, and sorted the nodes are those that the search reached, each once.
use Rattle.std.proofs.Common.{◌∙◌, ◌≤◌, length, subst, take_all, arith}
use Rattle.ch_query.proofs.one_side.Spreads.{item_rank, ranks_more, within_more, touched_reached}
use Rattle.ch_query.proofs.sides.search.Search.touched_nodes.Goals as goal

pub node_at-requires : goal.node_at-requires
node_at-requires c = item_rank c.args.hierarchy.now c.args.self.now _ _ c.requires.underway.1.sizes c.requires.underway.1.touched
    c.deref-rank-items.ensures.value c.loop-rank-test.true

pub loop-rank-preserved : goal.loop-rank-preserved
loop-rank-preserved c =
    let before = c.loop-rank.invariant in
    let pushed = c.push_reserved.ensures in
    let here = c.node_at.ensures in
    record {
      ranks = ranks_more c.args.hierarchy.now _ _ _ _ _ _ c.deref-rank-items.ensures.value c.loop-rank-test.true before.ranks
          here.rank pushed.items;
      within = within_more c.args.hierarchy.now _ _ _ before.within here.node pushed.items;
      count = (let a = pushed.len in let b = before.count in omega arith);
      room = (let a = pushed.capacity in let b = before.room in omega arith);
    }

pub returns : goal.returns
returns c =
    let after = c.loop-rank.invariant in
    let past = c.loop-rank-test.false in
    let items = c.deref-rank-items.ensures.value in
    touched_reached c.args.hierarchy.now c.requires.underway.1.levelled c.args.self.now c.requires.underway.1.touched _ _
    (after.ranks ∙ take_all _ _ (subst (λ q. length q ≤ c.loop-rank.rank-index) items past)) after.within
    c.sort_unstable.ensures.permutation c.sort_unstable.ensures.sorted
