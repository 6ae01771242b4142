-- Legs that are taken one after the other.
use Rattle.std.proofs.Common.{◌≡◌, ℕ, ◌+◌, ◌*◌, ◌^◌, ◌<◌, ◌≤◌, List, [], ◌∷◌, ◌++◌, length, Contains, Some, refl, sym}
use Rattle.std.proofs.Common.{◌∙◌, ap, subst, arith, set, inl, inr}
use Rattle.std.specs.Prelude.{slice_index}
use Rattle.std.proofs.lemmas.Bool.{cases_lt}
use Rattle.std.proofs.lemmas.List.{get_or_past}
use Rattle.std.proofs.lemmas.List.Elements.{All-contains, Contains-push_cases, All-get_or}
use Rattle.std.proofs.Math.Nat.{mul-le-mul_left}
use Rattle.ch_graph.specs.declared.limits.TheConstants.{MOST_NODES, MOST_WEIGHT, MOST_PATH_ARCS}
use Rattle.ch_graph.specs.declared.cost.Cost.{Cost}
use Rattle.ch_graph.specs.Cost.{cost_sum, cost_at}
use Rattle.ch_graph.proofs.CostSums.{cost_sum-no_cost}
use Rattle.ch_hierarchy.specs.declared.leg.Leg.{Leg}
use Rattle.ch_hierarchy.specs.Rows.{row}
use Rattle.ch_hierarchy.specs.Hierarchy.{LevelsAndLegs, nodes_of, IsLevelled, IsLegUp}
use Rattle.ch_hierarchy.specs.Paths.{path_cost}
use Rattle.ch_hierarchy.specs.declared.side.Side.{Side}
use Rattle.ch_hierarchy.specs.declared.side.Side.TheVariants.{Up, Down}
use Rattle.ch_hierarchy.specs.Side.{rows_of}
use Rattle.ch_hierarchy.proofs.theory.LegPaths.{path_cost-cons}
use Rattle.ch_query.specs.ByNode.{costs_of, keys_of, parents_of}
use Rattle.ch_query.specs.declared.question.Question.{Question}
use Rattle.ch_query.specs.declared.sides.search.Search.{Search}
use Rattle.ch_query.specs.Search.{IsRelaxedFrom, IsUpwardCost, IsExpanding, OrNode, count_unsettled}
use Rattle.ch_query.specs.Underway.{idle_of, IsPartlyExpanded, IsSized, IsTouched, IsUnderway, RelaxesIn}
use Rattle.ch_query.specs.Parents.{AreParents, IsNoEarlier}
use Rattle.ch_query.proofs.one_side.Parents.{lowered_parents, lowered_no_earlier, lowered_itself, equal_parents, equal_falls}
use Rattle.ch_query.proofs.one_side.Parents.{equal_here, finish_parents}
use Rattle.ch_query.proofs.one_side.PathLaws.{AreRising, path_arcs}
use Rattle.ch_query.proofs.one_side.Steps.{lowered, lowered_settled, lowered_keeps, lowered_relaxes, lowered_counts, expanded}

-- a leg of a row leads to a higher node, and is within the limits
pub leg_up : (H : LevelsAndLegs) → IsLevelled H → (side : Side) (v : ℕ) (l : Leg) → Contains (row (rows_of H side) v) l → IsLegUp H v l
leg_up H k Up v l has = All-contains (IsLegUp H v) (row H.up v) l (k.up.1 v).1 has
leg_up H k Down v l has = All-contains (IsLegUp H v) (row H.down v) l (k.down.1 v).1 has

-- a leg of a row is a path of one leg
pub reached_by_leg : (H : LevelsAndLegs) → IsLevelled H → (side : Side) (v : ℕ) (l : Leg) → Contains (row (rows_of H side) v) l →
    IsUpwardCost (rows_of H side) v l.node l.cost
reached_by_leg H k side v l h =
    record { path = (l ∷ [], (h, refl), path_cost-cons l [] ∙ cost_sum-no_cost l.cost); weight = (leg_up H k side v l h).weight }

-- there is a row for each node
pub rows_size : (H : LevelsAndLegs) → IsLevelled H → (side : Side) → length (rows_of H side) ≡ nodes_of H
rows_size H k Up = k.up.0
rows_size H k Down = k.down.0

-- a level is at most the number of nodes
pub level_small : (H : LevelsAndLegs) → IsLevelled H → (v : ℕ) → slice_index H.level v ≤ nodes_of H
level_small H k v = elim (cases_lt v (length H.level)) [
  | inl lt ↦ (All-get_or (λ l. (1 ≤ l) × (l ≤ nodes_of H)) H.level v 0 lt k.levels.0).1
  | inr ge ↦ let e = get_or_past H.level v 0 ge in omega arith
]

-- a path has few arcs, because it has at most one leg for each level, and each leg has fewer arcs than there are
-- nodes
pub reached_arcs : (H : LevelsAndLegs) → IsLevelled H → (side : Side) (s v : ℕ) (c : Cost) → IsUpwardCost (rows_of H side) s v c →
    c.arcs ≤ MOST_PATH_ARCS
reached_arcs H k side s v c r =
    let n = nodes_of H in
    let rising : AreRising n (slice_index H.level) (rows_of H side) = λ x l has. let u = leg_up H k side x l has in (u.higher, u.arcs) in
    let arcs = path_arcs n (slice_index H.level) (rows_of H side) rising s v r.path.0 r.path.1 in
    let is : (path_cost r.path.0).arcs ≡ c.arcs = ap (λ (q : Cost). q.arcs) r.path.2 in
    let small = level_small H k v in
    let count = k.count in
    let first : n * slice_index H.level v ≤ n * n = mul-le-mul_left n small in
    let second : n * n ≤ n * MOST_NODES = mul-le-mul_left n count in
    omega arith

-- the leg shows no lower cost
module _ (H : LevelsAndLegs) (q : Question) (x y z : Search) (v : ℕ) (c : Cost) (legs : List Leg) (l : Leg)
    (p : IsPartlyExpanded H q x y v c legs) (e : costs_of H z ≡ costs_of H y) (f : keys_of H z ≡ keys_of H y)
    (sized : IsSized (nodes_of H) z) (t : IsTouched z.labels.costs z.touched)
    (parents : AreParents q.most (rows_of H q.side) q.source (OrNode (idle_of H q) v) (costs_of H y) (keys_of H y) (parents_of H z))
    (relaxed : (k : Leg) → Contains (legs ++ l ∷ []) k →
    IsRelaxedFrom q.most (costs_of H y) c k × IsNoEarlier q.most (costs_of H y) (parents_of H z) v c k) where
  -- one more leg is taken in that case
  partly_same : IsPartlyExpanded H q x z v c (legs ++ l ∷ [])
  partly_same = record {
    expanding = record {
      levelled = p.expanding.levelled;
      sizes = sized;
      within = p.expanding.within;
      search = subst (λ best. IsExpanding q.most (rows_of H q.side) q.source (OrNode (idle_of H q) v) best (keys_of H z) v c) (sym e)
          (subst (λ queue. IsExpanding q.most (rows_of H q.side) q.source (OrNode (idle_of H q) v) (costs_of H y) queue v c) (sym f)
          p.expanding.search);
      parents = subst (λ best. AreParents q.most (rows_of H q.side) q.source (OrNode (idle_of H q) v) best (keys_of H z) (parents_of H z))
          (sym e)
          (subst (λ queue. AreParents q.most (rows_of H q.side) q.source (OrNode (idle_of H q) v) (costs_of H y) queue (parents_of H z))
          (sym f) parents);
      touched = t;
    };
    relaxed = λ k of.
        subst (λ best. IsRelaxedFrom q.most best c k × IsNoEarlier q.most best (parents_of H z) v c k) (sym e) (relaxed k of);
    settled = λ w d k. p.settled w d (sym (ap (λ r. cost_at r w) e) ∙ k.0, sym (ap (λ r. cost_at r w) f) ∙ k.1);
    measure = ap (λ r. count_unsettled r (keys_of H z)) e ∙ ap (count_unsettled (costs_of H y)) f ∙ p.measure;
  }

-- one more leg is taken
pub partly_more : (H : LevelsAndLegs) (q : Question) (x y z : Search) (v : ℕ) (c : Cost) (legs : List Leg) (l : Leg) →
    IsPartlyExpanded H q x y v c legs →
    Contains (row (rows_of H q.side) v) l → l.node < length (costs_of H y) → RelaxesIn H q.most y v c l z → IsSized (nodes_of H) z →
    IsTouched z.labels.costs z.touched → IsPartlyExpanded H q x z v c (legs ++ l ∷ [])
partly_more H q x y z v c legs l p has within (inl (e, f, is, inl (early, g))) sized t =
    partly_same H q x y z v c legs l p e f sized t
    (subst (AreParents q.most (rows_of H q.side) q.source (OrNode (idle_of H q) v) (costs_of H y) (keys_of H y)) (sym g)
    p.expanding.parents)
    (λ k of. elim (Contains-push_cases legs l k of) [
      | inl old ↦ ((p.relaxed k old).0, subst (λ r. IsNoEarlier q.most (costs_of H y) r v c k) (sym g) (p.relaxed k old).1)
      | inr new ↦ subst (λ m. IsRelaxedFrom q.most (costs_of H y) c m × IsNoEarlier q.most (costs_of H y) (parents_of H z) v c m) new
          (is, subst (λ r. IsNoEarlier q.most (costs_of H y) r v c l) (sym g) early)
    ])
partly_more H q x y z v c legs l p has within (inl (e, f, is, inr (equal, lt, g))) sized t =
    let here = p.expanding.search.here in
    let old_parents = p.expanding.parents in
    partly_same H q x y z v c legs l p e f sized t
    (subst (AreParents q.most (rows_of H q.side) q.source (OrNode (idle_of H q) v) (costs_of H y) (keys_of H y)) (sym g)
    (equal_parents _ _ _ _ _ _ v c here old_parents l has within equal lt))
    (λ k of. elim (Contains-push_cases legs l k of) [
      | inl old ↦ (
        (p.relaxed k old).0,
        λ low at.
            let n = (p.relaxed k old).1 low at in
            let d = equal_falls _ _ _ _ _ _ v c here old_parents l has within equal lt k.node in
            let i = ap (λ r. slice_index r k.node) g in
            omega arith,
      )
      | inr new ↦ subst (λ m. IsRelaxedFrom q.most (costs_of H y) c m × IsNoEarlier q.most (costs_of H y) (parents_of H z) v c m) new (
        is,
        λ low at.
            let d = equal_here _ _ _ _ _ _ v c here old_parents l has within equal lt in
            let i = ap (λ r. slice_index r l.node) g in
            omega arith,
      )
    ])
partly_more H q x y z v c legs l p has within (inr (light, lower, e, f, g)) sized t =
    let s = p.expanding.search in
    let a = p.expanding.parents in
    let best = set (costs_of H y) l.node (Some (cost_sum c l.cost)) in
    let queue = set (keys_of H y) l.node (Some (cost_sum c l.cost)) in
    let parents = set (parents_of H y) l.node v in
    record {
      expanding = record {
        levelled = p.expanding.levelled;
        sizes = sized;
        within = p.expanding.within;
        search = subst (λ r. IsExpanding q.most (rows_of H q.side) q.source (OrNode (idle_of H q) v) r (keys_of H z) v c) (sym e)
            (subst (λ r. IsExpanding q.most (rows_of H q.side) q.source (OrNode (idle_of H q) v) best r v c) (sym f)
            (lowered _ _ _ _ _ v c s l has light lower));
        parents = subst (λ r. AreParents q.most (rows_of H q.side) q.source (OrNode (idle_of H q) v) r (keys_of H z) (parents_of H z))
            (sym e)
            (subst (λ r. AreParents q.most (rows_of H q.side) q.source (OrNode (idle_of H q) v) best r (parents_of H z)) (sym f)
            (subst (AreParents q.most (rows_of H q.side) q.source (OrNode (idle_of H q) v) best queue) (sym g)
            (lowered_parents _ _ _ _ _ _ v c s a l has light lower)));
        touched = t;
      };
      relaxed = λ k of.
          subst (λ r. IsRelaxedFrom q.most r c k × IsNoEarlier q.most r (parents_of H z) v c k) (sym e)
          (subst (λ r. IsRelaxedFrom q.most best c k × IsNoEarlier q.most best r v c k) (sym g)
          (elim (Contains-push_cases legs l k of) [
            | inl old ↦ (
              lowered_keeps _ _ _ _ _ v c s l has light lower c k (p.relaxed k old).0,
              lowered_no_earlier _ _ _ _ _ _ v c s a l has light lower k (p.relaxed k old).1,
            )
            | inr is ↦ subst (λ m. IsRelaxedFrom q.most best c m × IsNoEarlier q.most best parents v c m) is
                (lowered_relaxes _ _ _ _ _ v c s l has light lower, lowered_itself _ _ _ _ _ _ v c s a l has light lower)
          ]));
      settled = λ w d k. p.settled w d
          (lowered_settled _ _ _ _ _ v c s l has light lower w d
          (sym (ap (λ r. cost_at r w) e) ∙ k.0, sym (ap (λ r. cost_at r w) f) ∙ k.1));
      measure = ap (λ r. count_unsettled r (keys_of H z)) e ∙ ap (count_unsettled best) f
          ∙ lowered_counts _ _ _ _ _ v c s l has light lower ∙ p.measure;
    }

-- all legs are taken
pub partly_whole : (H : LevelsAndLegs) (q : Question) (x y : Search) (v : ℕ) (c : Cost) (legs : List Leg) →
    IsPartlyExpanded H q x y v c legs → legs ≡ row (rows_of H q.side) v → IsUnderway H q y
partly_whole H q x y v c legs p e =
    let whole : (l : Leg) → Contains (row (rows_of H q.side) v) l → Contains legs l = λ l of. subst (λ xs. Contains xs l) (sym e) of in
    record {
      levelled = p.expanding.levelled;
      sizes = p.expanding.sizes;
      search = expanded _ _ _ _ _ v c p.expanding.search (λ l of. (p.relaxed l (whole l of)).0);
      parents = finish_parents _ _ _ _ _ _ v c p.expanding.search.here p.expanding.parents (inr (λ l of. (p.relaxed l (whole l of)).1));
      touched = p.expanding.touched;
    }

-- the leg's node exists, and its sum does not overflow
pub leg_bounds : (H : LevelsAndLegs) (q : Question) (x y : Search) (v : ℕ) (c : Cost) (legs : List Leg) (l : Leg) →
    IsPartlyExpanded H q x y v c legs → Contains (row (rows_of H q.side) v) l →
    (l.node < length (costs_of H y)) × (c.weight ≤ MOST_WEIGHT) × (l.cost.weight ≤ MOST_WEIGHT) × (c.arcs + l.cost.arcs < 2 ^ 63)
leg_bounds H q x y v c legs l p has =
    let k = p.expanding.levelled in
    let u = leg_up H k q.side v l has in
    let node = u.node in
    let arcs = u.arcs in
    let count = k.count in
    let size = p.expanding.search.search.sizes.0 in
    let rows = rows_size H k q.side in
    let here = p.expanding.search.search.sound v c p.expanding.search.here.0 in
    let most = reached_arcs H k q.side q.source v c here in
    (omega arith, here.weight, u.weight, omega arith)
