-- Each graph has a hierarchy with each list of given nodes.
use Rattle.std.proofs.Common.{◌≡◌, ℕ, zero, suc, ◌+◌, ◌<◌, ◌≤◌, List, [], ◌∷◌, ◌++◌, length, get_or, take, Contains, refl, sym, ◌∙◌}
use Rattle.std.proofs.Common.{ap, subst, arith, inl, inr, max, add-one}
use Rattle.std.specs.Prelude.{◌⊎◌, slice_index, ℤ, ◌≤ℤ◌, ◌<ℤ◌}
use Rattle.std.specs.Ordering.{int_cmp, MatchOrdering}
use Rattle.std.specs.declared.cmp.Ordering.{Ordering}
use Rattle.std.specs.declared.cmp.Ordering.TheVariants.{Less, Equal, Greater}
use Rattle.std.specs.Cmp.{int_ranks}
use Rattle.std.proofs.lemmas.Int.{ints}
use Rattle.std.proofs.lemmas.Bool.{cases_eq, cases_lt}
use Rattle.std.proofs.lemmas.List.{length-take, length_push, take_all, take_more, take-append-le, get_or-take}
use Rattle.ch_graph.specs.Graph.{Network, IsWithinLimits}
use Rattle.ch_hierarchy.specs.declared.leg.Leg.{Leg}
use Rattle.ch_hierarchy.specs.Hierarchy.{LevelsAndLegs}
use Rattle.ch_hierarchy.specs.Saved.{IsOrderOf}
use Rattle.ch_hierarchy.proofs.theory.Ordered.{contains_or_not}
use Rattle.ch_contract.specs.declared.measure.OrderBy.{OrderBy}
use Rattle.ch_contract.specs.declared.measure.OrderBy.TheVariants.{Difference, Depth}
use Rattle.ch_contract.specs.Legs.{Legs, AreLegsWithin, opening, turned_legs}
use Rattle.ch_contract.specs.LegRows.{AreLegsFrom}
use Rattle.ch_contract.specs.Legs.{LeadsWithin}
use Rattle.ch_contract.specs.Contraction.{Contracts, count_touching, key_by, legs_after_contraction}
use Rattle.ch_contract.specs.Order.{depth_after, IsContractedBefore, AreContracted}
use Rattle.ch_contract.specs.Built.{IsHierarchyOf, IsHierarchyInTurn}
use Rattle.ch_contract.specs.Like.{IsPriorityFrom, IsHierarchyFrom, TakesFirstFrom, given_count}
use Rattle.ch_contract.specs.LikeLaws.{GraphsHaveHierarchiesLike}
use Rattle.ch_contract.specs.OneOrder.{GraphsHaveHierarchies}
use Rattle.ch_contract.specs.Begun.{AreDifferentNodes, IsBegun}
use Rattle.ch_contract.proofs.theory.WitnessSearch.{some_of}
use Rattle.ch_contract.proofs.theory.Contracting.{pairs_by_needed}
use Rattle.ch_contract.proofs.theory.GivenNodes.{order_nodes}
use Rattle.ch_contract.proofs.theory.GivenOrders.{in_turn_from}
use Rattle.ch_contract.proofs.theory.Levelled.{within_steps, turned_within}
use Rattle.ch_contract.proofs.theory.Listing.{table, row_of}
use Rattle.ch_contract.proofs.theory.OneInTurn.{one_map, not_before, taken_at}
use Rattle.ch_contract.proofs.theory.OpeningLegs.{opening_within}
use Rattle.ch_contract.proofs.theory.OrderSteps.{AreLeast, then_legs, last_touch, begun_none, begun_more, begun_all}
use Rattle.ch_contract.proofs.theory.OrderSteps.{begun_most, least_more}
use Rattle.ch_contract.proofs.theory.ShortcutsListed.{shortcuts_listed}

-- of two nodes with keys one is contracted before the other; at equal keys it is the lesser number
before_total : (p q : ℤ) (v x : ℕ) → v < x → IsContractedBefore p v q x ⊎ (q <ℤ p)
before_total p q v x lt = at (int_cmp p q) (int_ranks p q)
  where
    at : (o : Ordering) → MatchOrdering o (p <ℤ q) (p ≡ q) (q <ℤ p) → IsContractedBefore p v q x ⊎ (q <ℤ p)
    at Less less = inl (omega (arith, ints), λ back. omega arith)
    at Equal e = inl (omega (arith, ints), λ back. omega arith)
    at Greater more = inr more

module _ (IsLeft : ℕ → Type 0) (left_or_not : (x : ℕ) → IsLeft x ⊎ (IsLeft x → ⊥)) (key : ℕ → ℤ) where
  -- v remains, and comes before all remaining nodes below m
  abbrev IsLeastBelow : ℕ → ℕ → Type 0
  IsLeastBelow m v = (v < m) × IsLeft v × ((x : ℕ) → x < m → IsLeft x → IsContractedBefore (key v) v (key x) x)

  -- one more node is no better than the least one
  stays : (m v : ℕ) → IsLeastBelow m v → (IsLeft m → IsContractedBefore (key v) v (key m) m) → IsLeastBelow (suc m) v
  stays m v least after = (
    let lt = least.0 in omega arith,
    least.1,
    λ x lt left. elim (cases_eq x m) [
      | inl e ↦ subst (λ z. IsContractedBefore (key v) v (key z) z) (sym e) (after (subst IsLeft e left))
      | inr ne ↦ least.2 x (omega arith) left
    ],
  )

  -- one more node is better than the least one
  yields : (m v : ℕ) → IsLeastBelow m v → IsLeft m → key m <ℤ key v → IsLeastBelow (suc m) m
  yields m v least is better = (
    omega arith,
    is,
    λ x lt left. elim (cases_eq x m) [
      | inl e ↦ (subst (λ z. key m ≤ℤ key z) (sym e) (omega (arith, ints)), λ back. omega arith)
      | inr ne ↦ let after = (least.2 x (omega arith) left).0 in (omega (arith, ints), λ back. absurd (omega (arith, ints)))
    ],
  )

  -- the only node is the least one
  only : (m : ℕ) → ((x : ℕ) → x < m → IsLeft x → ⊥) → IsLeft m → IsLeastBelow (suc m) m
  only m none is = (
    omega arith,
    is,
    λ x lt left. elim (cases_eq x m) [
      | inl e ↦ (subst (λ z. key m ≤ℤ key z) (sym e) (omega (arith, ints)), λ back. omega arith)
      | inr ne ↦ absurd (none x (omega arith) left)
    ],
  )

  -- if a node below m remains, one of them comes before all others
  pub least_below : (m : ℕ) → ((v : ℕ) × IsLeastBelow m v) ⊎ ((x : ℕ) → x < m → IsLeft x → ⊥)
  least_below zero = inr (λ x lt left. omega arith)
  least_below (suc m) = at (left_or_not m) (least_below m)
    where
      at : IsLeft m ⊎ (IsLeft m → ⊥) → ((v : ℕ) × IsLeastBelow m v) ⊎ ((x : ℕ) → x < m → IsLeft x → ⊥) →
          ((v : ℕ) × IsLeastBelow (suc m) v) ⊎ ((x : ℕ) → x < suc m → IsLeft x → ⊥)
      at (inl is) (inl r) = elim (before_total (key r.0) (key m) r.0 m r.1.0) [
        | inl first ↦ inl (r.0, stays m r.0 r.1 (λ left. first))
        | inr better ↦ inl (m, yields m r.0 r.1 is better)
      ]
      at (inl is) (inr none) = inl (m, only m none is)
      at (inr not) (inl r) = inl (r.0, stays m r.0 r.1 (λ left. absurd (not left)))
      at (inr not) (inr none) = inr (λ x lt left. elim (cases_eq x m) [
        | inl e ↦ not (subst IsLeft e left)
        | inr ne ↦ none x (omega arith) left
      ])

-- legs within the limits lead below n
leads : (n : ℕ) (L : Legs) → AreLegsWithin n L → LeadsWithin n L
leads n L limits u x some = let l = some_of (L u x) some in (limits u x l.0 l.1).ends.1

-- each node can be contracted
contraction_exists : (n h : ℕ) (L : Legs) (v : ℕ) → AreLegsWithin n L → (M : Legs) × Contracts n h L v M
contraction_exists n h L v limits =
    let list = shortcuts_listed n h L v limits (leads n L limits) in
    (legs_after_contraction L v list.0, (list.0, list.1, λ u w. refl))

module _ (g : Network) (h : ℕ) (limits : IsWithinLimits g) where
  -- the legs after each step are within the limits
  within : (order : List ℕ) (L : ℕ → Legs) → IsBegun g h order L → (k : ℕ) → k ≤ length order → AreLegsWithin g.nodes (L k)
  within order L b = within_steps g.nodes (length order) order L
      (subst (AreLegsWithin g.nodes) (sym (one_map (L 0) (opening g) b.start)) (opening_within g limits))
      (λ i lt. pairs_by_needed g.nodes h _ _ _ (b.step i lt))

  -- one more node can be contracted
  begun_next : (order : List ℕ) (L : ℕ → Legs) → IsBegun g h order L → (v : ℕ) → v < g.nodes → (Contains order v → ⊥) →
      (M : Legs) × IsBegun g h (order ++ v ∷ []) (then_legs (length order) L M)
  begun_next order L b v lt left =
      let made = contraction_exists g.nodes h (L (length order)) v (within order L b (length order) (omega arith)) in
      (made.0, begun_more (Contracts g.nodes h) g order L v made.0 b lt left made.1)

  -- the given nodes can be contracted
  given_begun : (given : List ℕ) → AreDifferentNodes g given → (i : ℕ) → i ≤ length given → (L : ℕ → Legs) × IsBegun g h (take i given) L
  given_begun given nodes zero le = ((λ i. opening g), begun_none (Contracts g.nodes h) g)
  given_begun given nodes (suc i) le =
      let rest = given_begun given nodes i (omega arith) in
      let lt : i < length given = omega arith in
      let more = begun_next (take i given) rest.0 rest.1 (get_or given i 0) (nodes.0 i 0 lt) (not_before i given lt nodes.1) in
      let all : take i given ++ get_or given i 0 ∷ [] ≡ take (suc i) given =
      sym (take_more given i 0 lt) ∙ ap (λ k. take k given) (add-one i) in (
        then_legs (length (take i given)) rest.0 more.0,
        subst (λ o. IsBegun g h o (then_legs (length (take i given)) rest.0 more.0)) all more.1,
      )

  module _ (by : OrderBy) (given : List ℕ) where
    -- some nodes are contracted, the given ones first and then each time the first of the others
    record IsUnderWay (order : List ℕ) (L : ℕ → Legs) : Type 0 where
      begun : IsBegun g h order L
      from : length given ≤ length order
      first : take (length given) order ≡ given
      least : AreLeast (length given) by g h order L

    module _ (order : List ℕ) (L : ℕ → Legs) (u : IsUnderWay order L) where
      -- each node has a priority
      priority : (x : ℕ) → (p : ℤ) × IsPriorityFrom (length given) by g.nodes h order L (length order) x p
      priority x =
          let touch = last_touch order L (length order) x in
          let inside = touch.1.within in
          let from = u.from in
          let k : ℕ = max (length given) touch.0 in
          let legs = within order L u.begun k (omega arith) in
          let list = shortcuts_listed g.nodes h (L k) x legs (leads g.nodes (L k) legs) in
          (key_by by (length list.0) (count_touching g.nodes (L k) x) (depth_after order L k x), (touch.0, touch.1, (list.0, list.1, refl)))

      -- whether a node remains is decided
      left_or_not : (x : ℕ) → (Contains order x → ⊥) ⊎ ((Contains order x → ⊥) → ⊥)
      left_or_not x = elim (contains_or_not order x) [
        | inl has ↦ inr (λ away. away has)
        | inr away ↦ inl away
      ]

      -- one more node is contracted
      next : (v : ℕ) → IsLeastBelow (λ x. Contains order x → ⊥) left_or_not (λ x. (priority x).0) g.nodes v →
          (M : ℕ → Legs) × IsUnderWay (order ++ v ∷ []) M
      next v least =
          let more = begun_next order L u.begun v least.0 least.1 in
          let size = length_push order v in (
            then_legs (length order) L more.0,
            record {
              begun = more.1;
              from = let from = u.from in omega arith;
              first = take-append-le (length given) order (v ∷ []) u.from ∙ u.first;
              least = least_more (length given) by g h order L v more.0 u.least u.from (λ x lt away.
                  ((priority v).0, (priority x).0, (priority v).1, (priority x).1, least.2 x lt away));
            },
          )

    -- it goes on until all nodes are contracted
    orders_from : (fuel : ℕ) (order : List ℕ) (L : ℕ → Legs) → IsUnderWay order L → g.nodes < length order + fuel →
        (all : List ℕ) × (M : ℕ → Legs) × AreContracted g h all M × (take (length given) all ≡ given)
        × TakesFirstFrom (length given) by g h all M
    orders_from zero order L u enough = absurd (omega (arith, begun_most g order u.begun.nodes.0 u.begun.nodes.1))
    orders_from (suc fuel) order L u enough =
        elim (least_below (λ x. Contains order x → ⊥) (left_or_not order L u) (λ x. (priority order L u x).0) g.nodes) [
          | inl some ↦
              let more = next order L u some.0 some.1 in
              orders_from fuel (order ++ some.0 ∷ []) more.0 more.1 (omega (arith, length_push order some.0))
          | inr none ↦
              let all = begun_all (Contracts g.nodes h) g order L u.begun (λ x lt. has order x (none x lt)) in
              let size = all.nodes.0 in
              (order, L, all, u.first, λ i x ge lt inside away. u.least i x ge (omega arith) inside away)
        ]
      where
        has : (order : List ℕ) (x : ℕ) → ((Contains order x → ⊥) → ⊥) → Contains order x
        has order x not_away = elim (contains_or_not order x) [
          | inl is ↦ is
          | inr away ↦ absurd (not_away away)
        ]

    -- there is an order with these given nodes
    pub order_exists : AreDifferentNodes g given →
        (order : List ℕ) × (L : ℕ → Legs) × AreContracted g h order L × (take (length given) order ≡ given)
        × TakesFirstFrom (length given) by g h order L
    order_exists nodes =
        let start = given_begun given nodes (length given) (omega arith) in
        let begun = subst (λ o. IsBegun g h o start.0) (take_all (length given) given (omega arith)) start.1 in
        orders_from (g.nodes + 1) given start.0 (record {
          begun = begun;
          from = omega arith;
          first = take_all (length given) given (omega arith);
          least = λ i x ge lt inside away. absurd (omega arith);
        }) (omega arith)

  module _ (order : List ℕ) (L : ℕ → Legs) (are : AreContracted g h order L) where
    -- the legs before each step are within the limits
    legs_within : (i : ℕ) → i < g.nodes → AreLegsWithin g.nodes (L i)
    legs_within i lt = within_steps g.nodes g.nodes order L
        (subst (AreLegsWithin g.nodes) (sym (one_map (L 0) (opening g) are.start)) (opening_within g limits))
        (λ k below. pairs_by_needed g.nodes h _ _ _ (are.step k below)) i (omega arith)

    -- a node is taken once
    one_place : (i j : ℕ) → i < g.nodes → j < g.nodes → slice_index order i ≡ slice_index order j → i ≡ j
    one_place i j li lj e =
        let size = are.nodes.0 in
        elim (cases_lt i j) [
          | inl before ↦ absurd (are.nodes.2 i j 0 before (omega arith) e)
          | inr no_before ↦ elim (cases_lt j i) [
            | inl after ↦ absurd (are.nodes.2 j i 0 after (omega arith) (sym e))
            | inr no_after ↦ omega arith
          ]
        ]

    -- there are rows of all nodes, from the legs before each step in either direction
    rows_exist : (turn : Legs → Legs) → ((M : Legs) → AreLegsWithin g.nodes M → AreLegsWithin g.nodes (turn M)) →
        (rows : List (List Leg)) × (length rows ≡ g.nodes) × ((x : ℕ) → x < g.nodes → (i : ℕ) → i < g.nodes →
        slice_index order i ≡ x → AreLegsFrom (turn (L i)) x (get_or rows x []))
    rows_exist turn keeps = table (λ x legs. (i : ℕ) → i < g.nodes → slice_index order i ≡ x → AreLegsFrom (turn (L i)) x legs) []
        g.nodes (λ x lt.
        let at = taken_at g.nodes order x are.nodes lt in
        let legs = keeps (L at.0) (legs_within at.0 at.1) in
        let row = row_of g.nodes (turn (L at.0) x) (λ y l e. (legs x y l e).ends.1) in
        (row.0, λ i li e. subst (λ z. AreLegsFrom (turn (L z)) x row.0) (one_place at.0 i at.1 li (at.2 ∙ sym e)) (row.1, row.2)))

    -- there are levels of all nodes
    levels_exist : (levels : List ℕ) × (length levels ≡ g.nodes)
        × ((x : ℕ) → x < g.nodes → (i : ℕ) → i < g.nodes → slice_index order i ≡ x → get_or levels x 0 ≡ i + 1)
    levels_exist = table (λ x level. (i : ℕ) → i < g.nodes → slice_index order i ≡ x → level ≡ i + 1) 0 g.nodes (λ x lt.
        let at = taken_at g.nodes order x are.nodes lt in
        (at.0 + 1, λ i li e. let same : at.0 ≡ i = one_place at.0 i at.1 li (at.2 ∙ sym e) in omega arith))

    -- the order has a hierarchy
    pub hierarchy_exists : (H : LevelsAndLegs) × IsHierarchyOf g h H order L
    hierarchy_exists =
        let levels = levels_exist in
        let ups = rows_exist (λ M. M) (λ M is. is) in
        let downs = rows_exist turned_legs (λ M is. turned_within g.nodes M is) in
        let size = are.nodes.0 in
        let node : (i : ℕ) → i < g.nodes → slice_index order i < g.nodes = λ i lt. are.nodes.1 i 0 (omega arith) in (
          record { level = levels.0; up = ups.0; down = downs.0 },
          record {
            contracted = are;
            sizes = (levels.1, ups.1, downs.1);
            level = λ i lt. levels.2 (slice_index order i) (node i lt) i lt refl;
            up = λ i lt. ups.2 (slice_index order i) (node i lt) i lt refl;
            down = λ i lt. downs.2 (slice_index order i) (node i lt) i lt refl;
          },
        )

-- there is a hierarchy with these given nodes
pub from_exists : (by : OrderBy) (g : Network) (h : ℕ) (given : List ℕ) → IsWithinLimits g → AreDifferentNodes g given →
    (H : LevelsAndLegs) × IsHierarchyFrom by g h given H
from_exists by g h given limits nodes =
    let o = order_exists g h limits by given nodes in
    let H = hierarchy_exists g h limits o.0 o.1 o.2 in
    (H.0, (o.0, o.1, H.1, o.3, o.4))

-- the first nodes of an order are different nodes
first_nodes : (g : Network) (order : List ℕ) (k : ℕ) → IsOrderOf g.nodes order → AreDifferentNodes g (take k order)
first_nodes g order k is =
    let nodes = order_nodes g.nodes order is in
    let size = length-take k order in (
      λ i d lt. let inside : i < k = omega arith in
          subst (λ z. z < g.nodes) (sym (get_or-take k order i d inside)) (nodes.1 i d (omega arith)),
      λ i j d before lt e.
          let first : i < k = omega arith in
          let second : j < k = omega arith in
          nodes.2 i j d before (omega arith) (sym (get_or-take k order i d first) ∙ e ∙ get_or-take k order j d second),
    )

-- each graph has a hierarchy in an order like each given one
pub like_exists : GraphsHaveHierarchiesLike
like_exists g h given fresh limits hops order =
    from_exists Depth g h (take (given_count g.nodes fresh) given) limits (first_nodes g given (given_count g.nodes fresh) order)

-- each graph has a hierarchy of nodes in turn
in_turn_exists : (by : OrderBy) (g : Network) (h : ℕ) → IsWithinLimits g → (H : LevelsAndLegs) × IsHierarchyInTurn by g h H
in_turn_exists by g h limits =
    let H = from_exists by g h [] limits (λ k d lt. absurd (omega arith), λ i j d lt inside. absurd (omega arith)) in
    (H.0, in_turn_from by g h H.0 H.1)

-- each graph has a hierarchy in each order
pub hierarchies_exist : GraphsHaveHierarchies
hierarchies_exist Difference g h limits hops = in_turn_exists Difference g h limits
hierarchies_exist Depth g h limits hops = in_turn_exists Depth g h limits
