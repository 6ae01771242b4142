-- A search without a target, and the list of the nodes that it reached.
use Rattle.std.proofs.Common.{◌≡◌, ℕ, ◌+◌, ◌<◌, true, false, List, [], ◌∷◌, ◌++◌}
use Rattle.std.proofs.Common.{length, Contains, take, map, Option, Some, None, refl, sym, ◌∙◌, ap, subst, arith, get_or, inl, inr}
use Rattle.std.specs.Prelude.{◌≢◌, AllPairs, is_some, unwrap_or, eqb}
use Rattle.std.specs.List.{IsDistinct}
use Rattle.std.specs.List.Sorted.{IsPermutation, IsSorted}
use Rattle.std.specs.Ordering.{nat_cmp}
use Rattle.std.proofs.lemmas.Bool.{false≢true}
use Rattle.std.proofs.lemmas.List.{take_more, map_push, get_or-map, length-map, get_or_default}
use Rattle.std.proofs.lemmas.List.Elements.{Contains-get_or, Contains-push_cases}
use Rattle.std.proofs.lemmas.List.Sorted.{Contains-permutation, IsPermutation-sym, IsNonDecreasingBy-from_sort}
use Rattle.std.proofs.lemmas.Map.Keys.{IsDistinct-from_apart, IsDistinct-IsPermutation, IsStrictlyIncreasing-from_distinct}
use Rattle.std.proofs.lemmas.List.Kept.{AllPairs-from_increasing}
use Rattle.ch_graph.specs.declared.cost.Cost.{Cost}
use Rattle.ch_graph.specs.Cost.{no_cost, cost_at}
use Rattle.ch_graph.proofs.Lists.{contains_map, contains_map_of}
use Rattle.ch_graph.proofs.Numbers.{not_eqb, eqb_flips}
use Rattle.ch_hierarchy.specs.declared.leg.Leg.{Leg}
use Rattle.ch_hierarchy.specs.Hierarchy.{LevelsAndLegs, nodes_of, IsLevelled}
use Rattle.ch_hierarchy.specs.Rows.{row}
use Rattle.ch_hierarchy.proofs.code.Ranked.{rank_one}
use Rattle.ch_query.specs.ByNode.{costs_of, keys_of}
use Rattle.ch_query.specs.declared.question.Question.{Question}
use Rattle.ch_query.specs.declared.sides.search.Search.{Search}
use Rattle.ch_query.specs.Limits.{IsMost}
use Rattle.ch_query.specs.Search.{IsEmpty}
use Rattle.ch_hierarchy.specs.Ranked.{rank_of}
use Rattle.ch_hierarchy.specs.Side.{rows_of}
use Rattle.ch_query.specs.Underway.{back_of, IsSized, IsTouched, IsRoom, idle_of, IsUnderway}
use Rattle.ch_query.specs.Spread.{IsSpread, AreReached, entry}
use Rattle.ch_query.proofs.one_side.ByNode.{by_node-at, by_node-some}
use Rattle.ch_query.proofs.one_side.Touched.{some_within}
use Rattle.ch_query.proofs.one_side.End.{known_least, least_known}

-- different numbers rise strictly after they are sorted
sorted_rises : (xs ys : List ℕ) → AllPairs ◌≢◌ xs → IsPermutation xs ys → IsSorted nat_cmp ys → AllPairs (λ a b. a < b) ys
sorted_rises xs ys distinct p sorted =
    let d : IsDistinct eqb xs = IsDistinct-from_apart eqb xs (λ i j e lt within. not_eqb _ _ (distinct i j e lt within)) in
    AllPairs-from_increasing ys (IsStrictlyIncreasing-from_distinct ys (IsNonDecreasingBy-from_sort (λ x. x) ys sorted)
    (IsDistinct-IsPermutation eqb eqb_flips xs ys p d))

-- a search under way has room for all nodes
pub underway_room : (H : LevelsAndLegs) (q : Question) (x : Search) → IsUnderway H q x → IsRoom x
underway_room H q x u = record { queue = u.sizes.1 ∙ sym u.sizes.0; parents = u.sizes.2 ∙ sym u.sizes.0; touched = u.touched }

-- a cost that is known is the one in the list
some_known : (o : Option Cost) → is_some o ≡ true → o ≡ Some (unwrap_or o no_cost)
some_known None e = absurd (false≢true e)
some_known (Some c) e = refl

-- a row of no rows is empty
none_in_row : (v : ℕ) (l : Leg) → Contains (row [] v) l → ⊥
none_in_row v l h = let lt = h.1 in omega arith

-- a search that does not stall has no idle node
pub never_idle : (H : LevelsAndLegs) (q : Question) → q.stalls ≡ false → (v : ℕ) (c : Cost) → idle_of H q v c → ⊥
never_idle H q off v c idle = none_in_row v idle.leg (subst (λ b. Contains (row (back_of H q.side b) v) idle.leg) off idle.has)

-- a search that has ended without stalling, and its touched nodes in order
module _ (H : LevelsAndLegs) (q : Question) (x : Search) (u : IsUnderway H q x) (off : q.stalls ≡ false) (done : IsEmpty (keys_of H x))
    (limit : Option ℕ) (most : IsMost limit q.most)
    (nodes : List ℕ) (rises : AllPairs (λ a b. a < b) nodes)
    (reached : (v : ℕ) → Contains nodes v → is_some (cost_at (costs_of H x) v) ≡ true)
    (all : (v : ℕ) → is_some (cost_at (costs_of H x) v) ≡ true → Contains nodes v) where
  -- an entry of the list, by its place
  at : (i : ℕ) (d : ℕ × Cost) → i < length nodes → get_or (map (entry (costs_of H x)) nodes) i d ≡ entry (costs_of H x) (get_or nodes i 0)
  at i d lt = get_or-map (entry (costs_of H x)) nodes i 0 d lt

  -- there are as many entries as nodes
  size : length (map (entry (costs_of H x)) nodes) ≡ length nodes
  size = length-map nodes (entry (costs_of H x))

  -- the nodes with their costs are the spread
  pub spread_is : IsSpread (rows_of H q.side) limit q.source (map (entry (costs_of H x)) nodes)
  spread_is = record {
    order = λ i j d lt within.
        let n = size in
        let low : i < length nodes = omega arith in
        let high : j < length nodes = omega arith in
        let rise = rises i j 0 lt high in
        let a = ap (λ (e : ℕ × Cost). e.0) (at i d low) in
        let b = ap (λ (e : ℕ × Cost). e.0) (at j d high) in
        omega arith;
    sound = λ v c h.
        let n = size in
        let low : h.0 < length nodes = (let lt = h.1 in omega arith) in
        let is : entry (costs_of H x) (get_or nodes h.0 0) ≡ (v, c) = sym (at h.0 (v, c) low) ∙ h.2 in
        let node : get_or nodes h.0 0 ≡ v = ap (λ (e : ℕ × Cost). e.0) is in
        let has : Contains nodes v = subst (Contains nodes) node (Contains-get_or nodes h.0 0 low) in
        let cost : unwrap_or (cost_at (costs_of H x) v) no_cost ≡ c =
        ap (λ w. unwrap_or (cost_at (costs_of H x) w) no_cost) (sym node) ∙ ap (λ (e : ℕ × Cost). e.1) is in
        let known : cost_at (costs_of H x) v ≡ Some c = some_known _ (reached v has) ∙ ap Some cost in
        (known_least _ _ _ _ _ u.search (never_idle H q off) done v c known, most.sound c.weight (u.search.light v c known));
    whole = λ v c h low.
        let n = size in
        let known = least_known _ _ _ _ _ u.search (never_idle H q off) done v c h (most.whole c.weight h.weight low) in
        let has = all v (ap is_some known) in
        let low : has.0 < length (map (entry (costs_of H x)) nodes) = (let lt = has.1 in omega arith) in
        let node : get_or nodes has.0 0 ≡ v = sym (get_or_default nodes has.0 v 0 has.1) ∙ has.2 in
        (has.0, low, at has.0 (v, c) has.1 ∙ ap (entry (costs_of H x)) node ∙ (λ i. (v, ap (λ q. unwrap_or q no_cost) known i)));
  }

-- a queue that is empty by rank is empty by node
empty_by_node : (H : LevelsAndLegs) (x : Search) → IsEmpty x.queue → IsEmpty (keys_of H x)
empty_by_node H x done v c e = done (rank_of H v) c (by_node-some H x.queue v c e).1

-- the spread of a search that has ended without stalling
pub spread_of : (H : LevelsAndLegs) (q : Question) (x : Search) (nodes : List ℕ) (limit : Option ℕ) → IsMost limit q.most →
    IsUnderway H q x → q.stalls ≡ false → IsEmpty x.queue → AreReached (costs_of H x) nodes →
    IsSpread (rows_of H q.side) limit q.source (map (entry (costs_of H x)) nodes)
spread_of H q x nodes limit most u off done a =
    spread_is H q x u off (empty_by_node H x done) limit most nodes a.order a.sound a.whole

-- the touched nodes, once sorted, are the reached nodes
module _ (H : LevelsAndLegs) (k : IsLevelled H) (x : Search) (t : IsTouched x.labels.costs x.touched) (nodes sorted : List ℕ)
    (ranks : map (rank_of H) nodes ≡ x.touched.items)
    (within : (v : ℕ) → Contains nodes v → v < nodes_of H) (p : IsPermutation nodes sorted) (order : IsSorted nat_cmp sorted) where
  -- the nodes are different
  apart : AllPairs ◌≢◌ nodes
  apart i j d lt low same =
      let size = length-map nodes (rank_of H) in
      let rank : (n : ℕ) → n < length nodes → get_or x.touched.items n (rank_of H d) ≡ rank_of H (get_or nodes n d) =
      λ n less. ap (λ q. get_or q n (rank_of H d)) (sym ranks) ∙ get_or-map (rank_of H) nodes n d (rank_of H d) less in
      let long = ap length ranks in
      t.distinct i j (rank_of H d) lt (omega arith) (rank i (omega arith) ∙ ap (rank_of H) same ∙ sym (rank j low))

  pub touched_reached : AreReached (costs_of H x) sorted
  touched_reached = record {
    order = sorted_rises nodes sorted apart p order;
    sound = λ v h.
        let has = Contains-permutation sorted nodes v (IsPermutation-sym nodes sorted p) h in
        ap is_some (by_node-at H x.labels.costs None None v (within v has))
        ∙ t.reached (rank_of H v) (subst (λ q. Contains q (rank_of H v)) ranks (contains_map (rank_of H) nodes v has));
    whole = λ v e.
        let known = some_known _ e in
        let there = by_node-some H x.labels.costs v _ known in
        let listed = t.listed (rank_of H v) (ap is_some there.1) in
        let of = contains_map_of (rank_of H) nodes (rank_of H v) (subst (λ q. Contains q (rank_of H v)) (sym ranks) listed) in
        Contains-permutation nodes sorted v p (subst (Contains nodes) (rank_one H k of.0 v (within of.0 of.1) there.0 of.2) of.1);
  }

-- a touched rank is a rank
pub item_rank : (H : LevelsAndLegs) (x : Search) (items : List ℕ) (i : ℕ) → IsSized (nodes_of H) x →
    IsTouched x.labels.costs x.touched → items ≡ x.touched.items → i < length items →
    get_or items i 0 < nodes_of H
item_rank H x items i s t e lt =
    let known = t.reached (get_or items i 0) (subst (λ q. Contains q (get_or items i 0)) e (Contains-get_or items i 0 lt)) in
    let within = some_within x.labels.costs (get_or items i 0) known in
    let size = s.0 in
    omega arith

-- one more node has its rank
pub ranks_more : (H : LevelsAndLegs) (touched items nodes new : List ℕ) (i v : ℕ) → items ≡ touched → i < length items →
    map (rank_of H) nodes ≡ take i touched →
    rank_of H v ≡ get_or items i 0 → new ≡ nodes ++ v ∷ [] → map (rank_of H) new ≡ take (i + 1) touched
ranks_more H touched items nodes new i v e lt was at is =
    ap (map (rank_of H)) is ∙ map_push (rank_of H) nodes v ∙ ap (λ q. q ++ rank_of H v ∷ []) was
    ∙ ap (λ q. take i touched ++ q ∷ []) (at ∙ ap (λ q. get_or q i 0) e)
    ∙ sym (take_more touched i 0 (subst (λ q. i < length q) e lt))

-- the one more node is a node
pub within_more : (H : LevelsAndLegs) (nodes new : List ℕ) (v : ℕ) → ((w : ℕ) → Contains nodes w → w < nodes_of H) →
    v < nodes_of H → new ≡ nodes ++ v ∷ [] →
    (w : ℕ) → Contains new w → w < nodes_of H
within_more H nodes new v was lt is w h = elim (Contains-push_cases nodes v w (subst (λ q. Contains q w) is h)) [
  | inl old ↦ was w old
  | inr same ↦ subst (λ q. q < nodes_of H) same lt
]

-- a node that is read from the reached nodes is reached
pub node_known : (best : List (Option Cost)) (nodes items : List ℕ) (i : ℕ) → AreReached best nodes → items ≡ nodes → i < length items →
    is_some (cost_at best (get_or items i 0)) ≡ true
node_known best nodes items i a e lt =
    a.sound (get_or items i 0) (subst (λ q. Contains q (get_or items i 0)) e (Contains-get_or items i 0 lt))

-- a reached node is a node
pub reached_within : (H : LevelsAndLegs) (x : Search) (v : ℕ) → is_some (cost_at (costs_of H x) v) ≡ true → v < nodes_of H
reached_within H x v e = (by_node-some H x.labels.costs v _ (some_known _ e)).0

-- the cost at a node's rank is the node's cost
pub read_cost : (H : LevelsAndLegs) (x : Search) (v rank : ℕ) (r : Option Cost) → is_some (cost_at (costs_of H x) v) ≡ true →
    rank ≡ rank_of H v → r ≡ cost_at x.labels.costs rank → r ≡ cost_at (costs_of H x) v
read_cost H x v rank r known at read =
    read ∙ ap (cost_at x.labels.costs) at ∙ sym (by_node-at H x.labels.costs None None v (reached_within H x v known))

-- the cost of a reached node is known
pub unknown : (o r : Option Cost) → r ≡ o → is_some o ≡ true → ((c : Cost) → r ≡ Some c → ⊥) → ⊥
unknown None r e known never = false≢true known
unknown (Some c) r e known never = never c e

-- one more node is in the list
listed_more : (best : List (Option Cost)) (nodes : List ℕ) (i v : ℕ) (c : Cost) (before after : List (ℕ × Cost)) → i < length nodes →
    get_or nodes i 0 ≡ v → cost_at best v ≡ Some c → before ≡ map (entry best) (take i nodes) → after ≡ before ++ (v, c) ∷ [] →
    after ≡ map (entry best) (take (i + 1) nodes)
listed_more best nodes i v c before after lt node known was is =
    let one : entry best (get_or nodes i 0) ≡ (v, c) = ap (entry best) node ∙ (λ j. (v, ap (λ q. unwrap_or q no_cost) known j)) in
    let more = ap (map (entry best)) (take_more nodes i 0 lt) ∙ map_push (entry best) (take i nodes) (get_or nodes i 0)
    ∙ ap (λ q. map (entry best) (take i nodes) ++ q ∷ []) one in
    is ∙ ap (λ q. q ++ (v, c) ∷ []) was ∙ sym more

-- the same as the program reads nodes and costs
pub listed_step : (best : List (Option Cost)) (nodes items : List ℕ) (i : ℕ) (c : Cost) (r : Option Cost)
    (before after : List (ℕ × Cost)) → items ≡ nodes →
    i < length items → r ≡ cost_at best (get_or items i 0) → r ≡ Some c → before ≡ map (entry best) (take i nodes) →
    after ≡ before ++ (get_or items i 0, c) ∷ [] → after ≡ map (entry best) (take (i + 1) nodes)
listed_step best nodes items i c r before after e lt known is was new =
    listed_more best nodes i (get_or items i 0) c before after (subst (λ xs. i < length xs) e lt) (ap (λ xs. get_or xs i 0) (sym e))
    (sym known ∙ is) was new
