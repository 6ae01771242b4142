-- A node stays unexpanded if a higher node shows a cheaper way to it.
use Rattle.std.proofs.Common.{◌≡◌, ℕ, ◌+◌, ◌^◌, ◌<◌, ◌≤◌, true, List, length, map, Contains, Some, None, refl, sym, ◌∙◌, ap, subst}
use Rattle.std.proofs.Common.{arith, get_or}
use Rattle.std.proofs.lemmas.List.{get_or-map, length-map}
use Rattle.ch_graph.specs.declared.limits.TheConstants.{MOST_SUM}
use Rattle.ch_graph.specs.declared.cost.Cost.{Cost}
use Rattle.ch_graph.specs.Cost.{IsBelow, cost_sum, cost_at}
use Rattle.ch_hierarchy.specs.declared.leg.Leg.{Leg}
use Rattle.ch_hierarchy.specs.Rows.{row}
use Rattle.ch_hierarchy.specs.Hierarchy.{LevelsAndLegs, nodes_of}
use Rattle.ch_hierarchy.proofs.theory.NoLeg.{no_leg}
use Rattle.ch_hierarchy.proofs.code.Ranked.{rank_below}
use Rattle.ch_query.specs.ByNode.{costs_of}
use Rattle.ch_hierarchy.specs.declared.ranked.RankedLeg.{RankedLeg}
use Rattle.ch_hierarchy.specs.Ranked.{ranked_leg}
use Rattle.ch_hierarchy.specs.declared.side.Side.{Side}
use Rattle.ch_hierarchy.specs.Side.{rows_of, other}
use Rattle.ch_query.specs.declared.question.Question.{Question}
use Rattle.ch_query.specs.declared.sides.search.Search.{Search}
use Rattle.ch_query.specs.Underway.{back_of, idle_of, IsExpandingAt}
use Rattle.ch_query.proofs.one_side.ByNode.{by_node-size, by_node-at}
use Rattle.std.proofs.lemmas.List.Elements.{Contains-get_or}
use Rattle.ch_query.proofs.one_side.Expanding.{leg_up, rows_size, reached_arcs}

-- a leg that the test for stalling reads leads to a node
pub record IsBackLeg (H : LevelsAndLegs) (q : Question) (x : Search) (v : ℕ) (l : Leg) : Type 0 where
  pub has : Contains (row (rows_of H (other q.side)) v) l
  pub within : l.node < length (costs_of H x)

module _ (H : LevelsAndLegs) (q : Question) (x : Search) (v : ℕ) (c : Cost) (u : IsExpandingAt H q x v c) where
  -- the test reads such legs
  pub back_leg : (side : Side) (legs : List Leg) (i : ℕ) (d : Leg) → side ≡ other q.side → legs ≡ row (rows_of H side) v → i < length legs →
      IsBackLeg H q x v (get_or legs i d)
  back_leg side legs i d turned e lt =
      let has = subst (λ xs. Contains xs (get_or legs i d)) (e ∙ ap (λ s. row (rows_of H s) v) turned) (Contains-get_or legs i d lt) in
      let node = (leg_up H u.levelled (other q.side) v (get_or legs i d) has).node in
      let size = u.search.search.sizes.0 in
      let rows = rows_size H u.levelled q.side in
      record { has = has; within = omega arith }

  -- the sums of the test do not overflow
  pub back_sum : (l : Leg) (e : Cost) → IsBackLeg H q x v l → cost_at (costs_of H x) l.node ≡ Some e →
      (e.weight + l.cost.weight ≤ MOST_SUM) × (e.arcs + l.cost.arcs < 2 ^ 64)
  back_sum l e b known =
      let up = leg_up H u.levelled (other q.side) v l b.has in
      let r = u.search.search.sound l.node e known in
      let most = reached_arcs H u.levelled q.side q.source l.node e r in
      let weight = r.weight in
      let light = up.weight in
      let arcs = up.arcs in
      let count = u.levelled.count in
      (omega arith, omega arith)

  -- if a sum is less than c, v may stay idle
  pub stalls_idle : (l : Leg) (e : Cost) → q.stalls ≡ true → IsBackLeg H q x v l → cost_at (costs_of H x) l.node ≡ Some e →
      IsBelow (cost_sum e l.cost) c → idle_of H q v c
  stalls_idle l e on b known below = record {
    leg = l;
    has = subst (λ s. Contains (row (back_of H q.side s) v) l) (sym on) b.has;
    cost = e;
    reached = u.search.search.sound l.node e known;
    below = below;
  }

  -- the test reads the leg at place i by rank
  module _ (side : Side) (items : List RankedLeg) (i : ℕ) (d : RankedLeg) (turned : side ≡ other q.side)
      (e : items ≡ map (ranked_leg H) (row (rows_of H side) v)) (lt : i < length items) where
    low : i < length (row (rows_of H side) v)
    low = (let size = ap length e ∙ length-map (row (rows_of H side) v) (ranked_leg H) in omega arith)

    -- the leg that is read
    here : Leg
    here = get_or (row (rows_of H side) v) i no_leg

    back : IsBackLeg H q x v here
    unfolding here
    back = back_leg side (row (rows_of H side) v) i no_leg turned refl low

    is : get_or items i d ≡ ranked_leg H here
    unfolding here
    is = ap (λ r. get_or r i d) e ∙ get_or-map (ranked_leg H) (row (rows_of H side) v) i no_leg d low

    within : here.node < nodes_of H
    within = (let b = back.within in let size = by_node-size H x.labels.costs None in omega arith)

    pub stall_rank : (get_or items i d).rank < length x.labels.costs
    stall_rank = subst (λ (r : RankedLeg). r.rank < length x.labels.costs) (sym is)
        (let r = rank_below H u.levelled here.node within in let s = u.sizes.0 in omega arith)

    -- a cost at its rank is the cost of its node
    known_there : (a : Cost) → cost_at x.labels.costs (get_or items i d).rank ≡ Some a → cost_at (costs_of H x) here.node ≡ Some a
    known_there a known = by_node-at H x.labels.costs None None here.node within
        ∙ ap (λ (r : RankedLeg). cost_at x.labels.costs r.rank) (sym is) ∙ known

    -- the sum of the two does not overflow
    pub stall_sum : (a cost : Cost) → cost_at x.labels.costs (get_or items i d).rank ≡ Some a →
        cost ≡ record { weight = (get_or items i d).weight; arcs = (get_or items i d).arcs } →
        (a.weight + cost.weight ≤ MOST_SUM) × (a.arcs + cost.arcs < 2 ^ 64)
    stall_sum a cost known same = subst (λ (r : Cost). (a.weight + r.weight ≤ MOST_SUM) × (a.arcs + r.arcs < 2 ^ 64))
        (sym (same ∙ ap (λ (r : RankedLeg). record { weight = r.weight; arcs = r.arcs }) is)) (back_sum here a back (known_there a known))

    -- if the sum is less than c, v may stay idle
    pub stall_idle : (a cost : Cost) → q.stalls ≡ true → cost_at x.labels.costs (get_or items i d).rank ≡ Some a →
        cost ≡ record { weight = (get_or items i d).weight; arcs = (get_or items i d).arcs } → IsBelow (cost_sum a cost) c → idle_of H q v c
    stall_idle a cost on known same below = stalls_idle here a on back (known_there a known)
        (subst (λ r. IsBelow (cost_sum a r) c) (same ∙ ap (λ (r : RankedLeg). record { weight = r.weight; arcs = r.arcs }) is) below)
