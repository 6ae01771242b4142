-- A leg from a higher node that was reached at a lesser sum shows that the state may stay unexpanded.
use Rattle.std.proofs.Common.{◌≡◌, map, arith, subst}
use Rattle.ch_hierarchy.specs.Rows.{row}
use Rattle.ch_hierarchy.specs.Ranked.{ranked_leg}
use Rattle.ch_hierarchy.specs.declared.side.Side.{Side}
use Rattle.ch_hierarchy.specs.Side.{rows_of}
use Rattle.ch_hierarchy.proofs.code.Ranked.{node_of_rank}
use Rattle.ch_query.proofs.by_weight.LegsRead.{read_leg, read_rank, read_light}
use Rattle.ch_query.proofs.by_weight.WeightStalls.{stall_within, stall_small, stall_idle}
use Rattle.ch_query.proofs.weights.search.WeightSearch.is_stalled.Goals as goal

pub state-requires : goal.state-requires
state-requires c =
    let H = c.args.hierarchy.now in
    let k = c.ranked_legs-leg-items.ensures.levelled in
    let n = node_of_rank H k c.args.rank c.requires.rank in
    read_rank H k c.other.result n.0 _ _ _ (c.ranked_legs-leg-items.ensures.row n.0 n.1 n.2) c.loop-leg-test.true

pub index-requires : goal.index-requires
index-requires c =
    let H = c.args.hierarchy.now in
    let k = c.ranked_legs-leg-items.ensures.levelled in
    let n = node_of_rank H k c.args.rank c.requires.rank in
    let w = c.requires.weighing n.0 n.1 n.2 in
    let items = subst (λ (s : Side). c.ranked_legs-leg-items.result.now ≡ map (ranked_leg H) (row (rows_of H s) n.0))
    c.other.ensures (c.ranked_legs-leg-items.ensures.row n.0 n.1 n.2) in
    let r = read_leg H k _ n.0 _ _ _ items c.loop-leg-test.true in
    let within = stall_within H c.args.ends c.args.side c.args.self.now n.0 c.args.weight w _ _ r.0 r.1 c.state.result c.state.ensures in
    omega arith

pub overflow_add-index : goal.overflow_add-index
overflow_add-index c =
    let H = c.args.hierarchy.now in
    let k = c.ranked_legs-leg-items.ensures.levelled in
    let n = node_of_rank H k c.args.rank c.requires.rank in
    let w = c.requires.weighing n.0 n.1 n.2 in
    let items = subst (λ (s : Side). c.ranked_legs-leg-items.result.now ≡ map (ranked_leg H) (row (rows_of H s) n.0))
    c.other.ensures (c.ranked_legs-leg-items.ensures.row n.0 n.1 n.2) in
    let r = read_leg H k _ n.0 _ _ _ items c.loop-leg-test.true in
    let small = stall_small H c.args.ends c.args.side c.args.self.now n.0 c.args.weight w _ _ r.0 r.1 c.state.result c.state.ensures
    c.index.result.now c.index.ensures in
    let light = read_light H k _ n.0 c.ranked_legs-leg-items.result.now c.loop-leg.leg-index
    record { rank = 0; arcs = 0; weight = 0 } items c.loop-leg-test.true in
    omega arith

pub returns-then-index-leg-clause-idle : goal.returns-then-index-leg-clause-idle
returns-then-index-leg-clause-idle c _ v within rank =
    let H = c.args.hierarchy.now in
    let k = c.ranked_legs-leg-items.ensures.levelled in
    let items = subst (λ (s : Side). c.ranked_legs-leg-items.result.now ≡ map (ranked_leg H) (row (rows_of H s) v)) c.other.ensures
    (c.ranked_legs-leg-items.ensures.row v within rank) in
    let r = read_leg H k _ v _ _ _ items c.loop-leg-test.true in
    stall_idle H c.args.ends c.args.side c.args.self.now v c.args.weight (c.requires.weighing v within rank) _ _ r.0 r.1 c.state.result
    c.state.ensures c.index.result.now c.index.ensures
    c.if-index-leg.true
