-- The opening of a construction, one step and the end, from the clauses of their calls.
use Rattle.std.proofs.Common.{◌≡◌, ℕ, Bool, false, not, map, refl, ◌+◌, ◌*◌, ◌<◌, ◌≤◌, List, length, Option, Some, None, sym, ◌∙◌}
use Rattle.std.proofs.Common.{ap, subst, arith, inl, inr, replicate, length-append, length-set, get_or-set_same, get_or-set_other}
use Rattle.std.specs.Prelude.{filter, is_some, ◌||◌, slice_index, ℤ, ◌<ℤ◌}
use Rattle.std.specs.Ordering.{is_gt, int_cmp, MatchOrdering}
use Rattle.std.specs.declared.cmp.Ordering.{Ordering}
use Rattle.std.specs.declared.cmp.Ordering.TheVariants.{Less, Equal, Greater}
use Rattle.std.specs.Cmp.{int_ranks}
use Rattle.std.proofs.lemmas.Int.{ints}
use Rattle.std.proofs.lemmas.Bool.{true≢false, cases_lt}
use Rattle.std.proofs.lemmas.List.{length-map, get_or-replicate, get_or_past, length-replicate}
use Rattle.std.proofs.lemmas.List.Filters.{length-filter_both}
use Rattle.ch_queue.specs.Queue.{key_of, IsLeastEntry, ComesFirst}
use Rattle.ch_graph.specs.Graph.{Network}
use Rattle.ch_hierarchy.specs.Rows.{row}
use Rattle.ch_hierarchy.specs.declared.leg.Leg.{Leg}
use Rattle.ch_order.specs.declared.construction.Construction.{Construction}
use Rattle.ch_order.specs.declared.keys.Keys.{Keys}
use Rattle.ch_contract.specs.Legs.{Label, Legs, SameLegs, AreLegsWithin, opening}
use Rattle.ch_contract.specs.Order.{are_neighbours, IsContractedBefore}
use Rattle.ch_contract.specs.LegRows.{AreLegsFrom, AreLegsTo}
use Rattle.ch_hierarchy.specs.Hierarchy.{LevelsAndLegs}
use Rattle.ch_contract.specs.Remaining.{RemainingLegs, legs_of}
use Rattle.ch_order.specs.Progress.{IsKeyBy, IsNext, IsOpen, IsContraction, IsStep, AreAll}
use Rattle.ch_contract.specs.Neighbours.{has_node, neighbours_in}
use Rattle.ch_order.specs.Priorities.{AreRefreshed, IsKeyIn}
use Rattle.ch_contract.specs.Measures.{AreDeepened}
use Rattle.ch_order.specs.Construction.{progress_of, IsSized, IsTaken}
use Rattle.ch_contract.proofs.theory.OneInTurn.{one_map}
use Rattle.ch_contract.proofs.theory.Counts.{rows_touching, count_most}
use Rattle.ch_contract.proofs.code.NodeBounds.{zeros}
use Rattle.ch_contract.proofs.code.Neighbours.{deeper_by, neighbour_listed, not_listed}

-- an entry that comes first in a queue of numbers is contracted before the other
first_of : (p : ℤ) (v : ℕ) (q : ℤ) (x : ℕ) → ComesFirst int_cmp (p, v) (q, x) → IsContractedBefore p v q x
first_of p v q x f = at (int_cmp p q) (int_ranks p q) f.0 f.1
  where
    at : (o : Ordering) → MatchOrdering o (p <ℤ q) (p ≡ q) (q <ℤ p) → is_gt o ≡ false → (o ≡ Equal → v ≤ x) → IsContractedBefore p v q x
    at Less lt past tie = (omega (arith, ints), λ back. absurd (omega (arith, ints)))
    at Equal e past tie = (omega (arith, ints), λ back. tie refl)
    at Greater gt past tie = absurd (true≢false past)

-- the least entry of the queue is the node that is next
pub is_next : (keys : List (Option ℤ)) (e : ℤ × ℕ) → IsLeastEntry int_cmp keys e → IsNext keys e.1
is_next keys e l = record { priority = e.0; has = l.has; first = λ x q has. first_of e.0 e.1 q x (l.least x q has) }

-- in a queue of no keys no node has a key
none_at : (n x : ℕ) → key_of {K = ℤ} (replicate n None) x ≡ None
none_at n x = elim (cases_lt x n) [
  | inl lt ↦ get_or-replicate n x None None lt
  | inr past ↦ get_or_past (replicate n None) x None (omega (arith, length-replicate {A = Option ℤ} n None))
]

-- a construction in which no node is contracted
pub opened : (g : Network) (r : RemainingLegs) (waiting : List (Option ℤ)) (depths levels : List ℕ) →
    SameLegs (legs_of r) (opening g) → r.nodes ≡ g.nodes → AreLegsWithin r.nodes (legs_of r) → waiting ≡ replicate r.nodes None →
    depths ≡ replicate r.nodes 0 → length levels ≡ r.nodes →
    IsOpen g (record {
      legs = legs_of r;
      keys = waiting;
      depth = λ x. slice_index depths x;
      levels = levels;
      up =
          λ x. row r.ups x;
      down = λ x. row r.downs x;
      contracted = 0;
    })
opened g r waiting depths levels same nodes limits keys zero size = record {
  legs = same;
  limits = subst (λ n. AreLegsWithin n (opening g)) nodes (subst (AreLegsWithin r.nodes) (one_map (legs_of r) (opening g) same) limits);
  size = size ∙ nodes;
  keys = (ap length keys ∙ length-replicate {A = Option ℤ} r.nodes None ∙ nodes, λ x. ap (λ l. key_of l x) keys ∙ none_at r.nodes x);
  depths = λ x. ap (λ (l : List ℕ). slice_index l x) zero ∙ zeros r.nodes x;
  contracted = λ i. 0;
}

-- a construction keeps its sizes when a node is taken
pub sized_taken : (h : ℕ) (before : Construction) (v : ℕ) (list : List ℕ) (after : Construction) → IsSized before →
    IsTaken h before v list after → IsSized after
sized_taken h before v list after sizes t =
    let nodes = t.nodes in
    record {
      nodes = let count = sizes.nodes in omega arith;
      keys = ap length t.waiting ∙ length-set before.waiting v None ∙ sizes.keys ∙ sym nodes;
      depths = t.deeper.size ∙ sizes.depths ∙ sym nodes;
      levels = ap length t.levels ∙ length-set before.levels.items v after.contracted ∙ sizes.levels ∙ sym nodes;
      ups = t.up.size ∙ sizes.ups ∙ sym nodes;
      downs = t.down.size ∙ sizes.downs ∙ sym nodes;
    }

-- a refreshed queue stays one if lists are replaced by equal lists
pub lent_refreshed : (IsOf : List ℕ → ℕ → ℤ → Type 0) (depths deep nodes lent : List ℕ) (old after : List (Option ℤ)) →
    deep ≡ depths → lent ≡ nodes → AreRefreshed (IsOf deep) lent old after → AreRefreshed (IsOf depths) nodes old after
lent_refreshed IsOf depths deep nodes lent old after d a r =
    subst (λ l. AreRefreshed (IsOf depths) l old after) a (subst (λ e. AreRefreshed (IsOf e) lent old after) d r)

-- a node is no neighbour of itself
not_own : (n : ℕ) (L : Legs) (v : ℕ) → AreLegsWithin n L → are_neighbours L v v ≡ false
not_own n L v within = at (L v v) refl
  where
    at : (o : Option Label) → L v v ≡ o → (is_some (L v v) || is_some (L v v)) ≡ false
    at None e = rw e refl
    at (Some l) e = absurd ((within v v l e).ends.2 refl)

-- a node is contracted if it is taken, whatever keys the queue has then
pub taken_step : (h : ℕ) (before : Construction) (v : ℕ) (list : List ℕ) (taken : Construction) (keys : List (Option ℤ)) →
    IsTaken h before v list taken →
    IsContraction before.remaining.nodes h (progress_of before) v (record (progress_of taken) { keys = keys })
taken_step h before v list taken keys t = record {
  legs = t.legs;
  contracted = t.contracted;
  levels = t.levels;
  up = t.up.legs;
  down = t.down.legs;
  rows = λ x ne. (t.up.kept x ne, t.down.kept x ne);
  depths = deeper_by (legs_of before.remaining) v _ _ before.depths.items taken.depths.items t.up.legs t.down.legs
      (subst (λ l. AreDeepened l (slice_index before.depths.items v + 1) before.depths.items taken.depths.items) t.listed t.deeper);
}

-- a step is made if a node is taken and its neighbours get their present keys
pub stepped : (by : Keys) (h : ℕ) (before : Construction) (v : ℕ) (list : List ℕ) (taken : Construction)
    (keys : List (Option ℤ)) → v < before.remaining.nodes → AreLegsWithin before.remaining.nodes (legs_of before.remaining) →
    IsSized before → IsTaken h before v list taken →
    AreRefreshed (IsKeyIn by taken.remaining h taken.depths.items) list taken.waiting keys →
    IsStep by before.remaining.nodes h (progress_of before) v (record (progress_of taken) { keys = keys })
stepped by h before v list taken keys node within sizes t refreshed =
    let L = legs_of before.remaining in
    let up = row taken.remaining.ups v in
    let down = row taken.remaining.downs v in
    let deep : ℕ → ℕ = λ x. slice_index taken.depths.items x in
    let Refreshed : ℕ → List ℕ → List (Option ℤ) →
    Type 0 = λ n l old. AreRefreshed (IsKeyBy by n h (legs_of taken.remaining) deep) l old keys in
    let one = subst (λ n. Refreshed n list taken.waiting) t.nodes refreshed in
    let two = subst (λ l. Refreshed before.remaining.nodes l taken.waiting) t.listed one in
    let anew = subst (Refreshed before.remaining.nodes (neighbours_in up down)) t.waiting two in
    record {
      contraction = taken_step h before v list taken keys t;
      size = anew.size ∙ length-set before.waiting v None;
      taken = anew.kept v (not_listed L v up down t.up.legs t.down.legs v (not_own before.remaining.nodes L v within))
          ∙ get_or-set_same before.waiting v None None (let size = sizes.keys in omega arith);
      anew = λ x e. anew.anew x (neighbour_listed L v up down t.up.legs t.down.legs x e);
      kept = λ x ne e. anew.kept x (not_listed L v up down t.up.legs t.down.legs x e) ∙ get_or-set_other before.waiting v x None None ne;
    }

-- at the end the hierarchy has the levels and the rows of all nodes
pub all_rows : (c : Construction) (H : LevelsAndLegs) → IsSized c → H.level ≡ c.levels.items → H.up ≡ c.remaining.ups →
    H.down ≡ c.remaining.downs → AreAll c.remaining.nodes (progress_of c) H
all_rows c H sizes level up down = record {
  level = level;
  sizes = (sizes.levels, ap length up ∙ sizes.ups, ap length down ∙ sizes.downs);
  rows = λ x lt. (ap (λ l. row l x) up, ap (λ l. row l x) down);
}

-- a node has at most two neighbours for each node of the graph
pub neighbours_count : (n v : ℕ) (L : Legs) (up down : List Leg) (list : List ℕ) →
    AreLegsWithin n L → AreLegsFrom L v up → AreLegsTo L v down → list ≡ neighbours_in up down → length list ≤ 2 * n
neighbours_count n v L up down list within from to e =
    let other : Leg → Bool = λ l. not (has_node up l.node) in
    let others = filter other down in
    let few : length others ≤ length down = omega (arith, length-filter_both other (λ l. not (other l)) (λ l. refl) down) in
    let ends : Leg → ℕ = λ l. l.node in
    omega (
      arith,
      few,
      ap length e,
      length-append (map ends up) (map ends others),
      length-map up ends,
      length-map others ends,
      rows_touching n v L up down within from to,
      count_most n (λ x. is_some (L v x)),
      count_most n (λ x. is_some (L x v)),
    )
