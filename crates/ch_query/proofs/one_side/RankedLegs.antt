-- Legs by rank, taken one after the other.
use Rattle.std.proofs.Common.{◌≡◌, ℕ, ◌+◌, ◌^◌, ◌<◌, ◌≤◌, List, length, length-set, Contains, take, map, Some, None, sym, take_all}
use Rattle.std.proofs.Common.{◌∙◌, ap, subst, arith, get_or, set, inl, inr}
use Rattle.std.specs.Prelude.{slice_index}
use Rattle.std.proofs.lemmas.List.{take_more, get_or-map, length-map}
use Rattle.std.proofs.lemmas.Option.{none-some}
use Rattle.std.proofs.lemmas.List.Elements.{Contains-get_or}
use Rattle.ch_graph.specs.declared.limits.TheConstants.{MOST_WEIGHT}
use Rattle.ch_graph.specs.declared.cost.Cost.{Cost}
use Rattle.ch_graph.specs.Cost.{cost_sum, cost_at}
use Rattle.ch_hierarchy.specs.declared.leg.Leg.{Leg}
use Rattle.ch_hierarchy.specs.Rows.{row}
use Rattle.ch_hierarchy.specs.Hierarchy.{LevelsAndLegs, nodes_of, IsLevelled}
use Rattle.ch_hierarchy.proofs.theory.NoLeg.{no_leg}
use Rattle.ch_hierarchy.specs.declared.ranked.RankedLeg.{RankedLeg}
use Rattle.ch_hierarchy.proofs.code.Ranked.{rank_below}
use Rattle.ch_query.specs.declared.question.Question.{Question}
use Rattle.ch_query.specs.declared.sides.search.Search.{Search}
use Rattle.ch_hierarchy.specs.Ranked.{rank_of, ranked_leg}
use Rattle.ch_hierarchy.specs.Side.{rows_of}
use Rattle.ch_query.specs.ByNode.{by_node, costs_of, parents_of}
use Rattle.ch_query.specs.Underway.{IsSized, IsTouched, UnreachedIsUnkeyed, RelaxesByRank, RelaxesIn, IsPartlyExpanded}
use Rattle.ch_query.proofs.one_side.ByNode.{by_node-size, by_node-at, by_node-set}
use Rattle.ch_query.proofs.one_side.Touched.{none_unless}
use Rattle.ch_query.proofs.one_side.Expanding.{leg_up, leg_bounds, partly_more}

-- the change of a leg taken by rank, seen by node
module _ (H : LevelsAndLegs) (k : IsLevelled H) (y z : Search) (v : ℕ) (c : Cost) (l : Leg) (sizes : IsSized (nodes_of H) y)
    (within : l.node < nodes_of H) where
  -- the cost of the leg's node is the one at its rank
  cost_there : cost_at (costs_of H y) l.node ≡ cost_at y.labels.costs (rank_of H l.node)
  cost_there = by_node-at H y.labels.costs None None l.node within

  -- the parent of the leg's node is the one at its rank
  parent_there : slice_index (parents_of H y) l.node ≡ slice_index y.labels.parents (rank_of H l.node)
  parent_there = by_node-at H y.labels.parents 0 0 l.node within

  -- the parents by node after v was written
  parents_then : z.labels.parents ≡ set y.labels.parents (rank_of H l.node) v → parents_of H z ≡ set (parents_of H y) l.node v
  parents_then e = ap (λ q. by_node H q 0) e ∙ by_node-set H k y.labels.parents 0 v l.node sizes.2 within

  -- the change by rank is the same change by node
  pub relaxes_by_node : (most : ℕ) → RelaxesByRank most y v c (ranked_leg H l) z → RelaxesIn H most y v c l z
  relaxes_by_node most (inl (e, f, is, inl (early, g))) = inl (
    ap (λ q. by_node H q None) e,
    ap (λ q. by_node H q None) f,
    (λ low. let r = is low in (r.0, cost_there ∙ r.1, r.2)),
    inl ((λ low known. let a = early low (sym cost_there ∙ known) in let b = parent_there in omega arith), ap (λ q. by_node H q 0) g),
  )
  relaxes_by_node most (inl (e, f, is, inr (equal, lt, g))) = inl (
    ap (λ q. by_node H q None) e,
    ap (λ q. by_node H q None) f,
    (λ low. let r = is low in (r.0, cost_there ∙ r.1, r.2)),
    inr (cost_there ∙ equal, (let b = parent_there in omega arith), parents_then g),
  )
  relaxes_by_node most (inr (light, lower, e, f, g)) = inr (
    light,
    record {
      within = (let size = by_node-size H y.labels.costs None in omega arith);
      lower =
          λ d known. lower.lower d (sym cost_there ∙ known);
    },
    ap (λ q. by_node H q None) e ∙ by_node-set H k y.labels.costs None (Some (cost_sum c l.cost)) l.node sizes.0 within,
    ap (λ q. by_node H q None) f ∙ by_node-set H k y.queue None (Some (cost_sum c l.cost)) l.node sizes.1 within,
    parents_then g,
  )

-- taking a leg keeps the lengths of the lists
pub relaxes_sizes : (n most : ℕ) (y z : Search) (v : ℕ) (c : Cost) (r : RankedLeg) → IsSized n y → RelaxesByRank most y v c r z →
    IsSized n z
relaxes_sizes n most y z v c r s (inl (e, f, is, inl (early, g))) = (ap length e ∙ s.0, ap length f ∙ s.1, ap length g ∙ s.2)
relaxes_sizes n most y z v c r s (inl (e, f, is, inr (equal, lt, g))) =
    (ap length e ∙ s.0, ap length f ∙ s.1, ap length g ∙ length-set y.labels.parents r.rank v ∙ s.2)
relaxes_sizes n most y z v c r s (inr (light, lower, e, f, g)) = (
  ap length e ∙ length-set y.labels.costs r.rank _ ∙ s.0,
  ap length f ∙ length-set y.queue r.rank _ ∙ s.1,
  ap length g ∙ length-set y.labels.parents r.rank v ∙ s.2,
)

-- the program reads the leg at place i of the legs of v
module _ {H : LevelsAndLegs} {q : Question} {x y : Search} {v : ℕ} {c : Cost} {items : List RankedLeg} {i : ℕ} (d : RankedLeg)
    (p : IsPartlyExpanded H q x y v c (take i (row (rows_of H q.side) v)))
    (e : items ≡ map (ranked_leg H) (row (rows_of H q.side) v)) (lt : i < length items) where
  -- it is a leg of the row
  low : i < length (row (rows_of H q.side) v)
  low = (let size = ap length e ∙ length-map (row (rows_of H q.side) v) (ranked_leg H) in omega arith)

  here : Leg
  here = get_or (row (rows_of H q.side) v) i no_leg

  has : Contains (row (rows_of H q.side) v) here
  unfolding here
  has = Contains-get_or (row (rows_of H q.side) v) i no_leg low

  -- the leg that is read is that leg by rank
  is : get_or items i d ≡ ranked_leg H here
  unfolding here
  is = ap (λ r. get_or r i d) e ∙ get_or-map (ranked_leg H) (row (rows_of H q.side) v) i no_leg d low

  -- its node exists, and its sum does not overflow
  bounds : (here.node < length (costs_of H y)) × (c.weight ≤ MOST_WEIGHT) × (here.cost.weight ≤ MOST_WEIGHT)
      × (c.arcs + here.cost.arcs < 2 ^ 63)
  bounds = leg_bounds H q x y v c _ here p has

  within : here.node < nodes_of H
  within = (leg_up H p.expanding.levelled q.side v here has).node

  pub read_rank : (get_or items i d).rank < length y.labels.costs
  read_rank = subst (λ (r : RankedLeg). r.rank < length y.labels.costs) (sym is)
      (let r = rank_below H p.expanding.levelled here.node within in let s = p.expanding.sizes.0 in omega arith)

  -- if its node is not reached, the node has no key
  unkeyed : UnreachedIsUnkeyed y (rank_of H here.node)
  unkeyed unreached = none_unless (cost_at y.queue (rank_of H here.node)) (λ d key.
      let queued = p.expanding.search.search.queued here.node d (by_node-at H y.queue None None here.node within ∙ key) in
      none-some d (sym unreached ∙ sym (by_node-at H y.labels.costs None None here.node within) ∙ queued))

  pub read_unkeyed : UnreachedIsUnkeyed y (get_or items i d).rank
  read_unkeyed = subst (λ (r : RankedLeg). UnreachedIsUnkeyed y r.rank) (sym is) unkeyed

  pub read_weights : (c.weight ≤ MOST_WEIGHT) × ((get_or items i d).weight ≤ MOST_WEIGHT)
  read_weights = (bounds.1, subst (λ (r : RankedLeg). r.weight ≤ MOST_WEIGHT) (sym is) bounds.2)

  pub read_arcs : c.arcs + (get_or items i d).arcs < 2 ^ 63
  read_arcs = subst (λ (r : RankedLeg). c.arcs + r.arcs < 2 ^ 63) (sym is) bounds.3

  -- the leg is taken
  pub ranked_step : (z : Search) → RelaxesByRank q.most y v c (get_or items i d) z → IsTouched z.labels.costs z.touched →
      IsPartlyExpanded H q x z v c (take (i + 1) (row (rows_of H q.side) v))
  unfolding here
  ranked_step z r t =
      let by_rank : RelaxesByRank q.most y v c (ranked_leg H here) z = subst (λ leg. RelaxesByRank q.most y v c leg z) is r in
      subst (IsPartlyExpanded H q x z v c) (sym (take_more (row (rows_of H q.side) v) i no_leg low))
      (partly_more H q x y z v c (take i (row (rows_of H q.side) v)) here p has bounds.0
      (relaxes_by_node H p.expanding.levelled y z v c here p.expanding.sizes within q.most by_rank)
      (relaxes_sizes (nodes_of H) q.most y z v c _ p.expanding.sizes by_rank) t)

-- past the last leg, all legs are taken
pub read_all : (H : LevelsAndLegs) (legs : List Leg) (items : List RankedLeg) (i : ℕ) → items ≡ map (ranked_leg H) legs → length items ≤ i →
    take i legs ≡ legs
read_all H legs items i e past = take_all i legs (let size = ap length e ∙ length-map legs (ranked_leg H) in omega arith)
