-- Two hierarchies of nodes that are contracted one after the other, for the same graph, order and bound, are equal.
use Rattle.std.proofs.Common.{◌≡◌, ℕ, suc, zero, ◌+◌, ◌-◌, ◌<◌, ◌≤◌, max, List, [], length, take, sym, ◌∙◌, ap, subst, arith, inl}
use Rattle.std.proofs.Common.{inr, Contains}
use Rattle.std.specs.Prelude.{◌≢◌, All, AllPairs, slice_index, ℤ, ◌≤ℤ◌}
use Rattle.std.proofs.lemmas.Bool.{cases_eq, cases_lt, false≢true}
use Rattle.std.proofs.lemmas.List.{same_lists, get_or_default, get_or-take, length-take}
use Rattle.std.proofs.lemmas.Grind.{same_number_lists}
use Rattle.ch_graph.specs.Graph.{Network}
use Rattle.ch_hierarchy.specs.declared.leg.Leg.{Leg}
use Rattle.ch_contract.specs.declared.measure.OrderBy.{OrderBy}
use Rattle.ch_contract.specs.declared.measure.OrderBy.TheVariants.{Depth}
use Rattle.ch_contract.specs.declared.shortcut.Shortcut.{Shortcut}
use Rattle.ch_contract.specs.Legs.{Legs, SameLegs, turned_legs}
use Rattle.ch_contract.specs.Contraction.{IsPairBefore, AreShortcuts, legs_after_contraction, Contracts, key_by, IsPriorityBy}
use Rattle.ch_contract.specs.Contraction.{count_touching}
use Rattle.ch_contract.specs.Order.{are_neighbours, next_depth, depth_after, IsLastTouch, AreContracted}
use Rattle.ch_contract.specs.Like.{IsPriorityFrom, TakesFirstFrom}
use Rattle.ch_hierarchy.specs.Rows.{row}
use Rattle.ch_contract.specs.LegRows.{AreLegsFrom}
use Rattle.ch_hierarchy.specs.Hierarchy.{LevelsAndLegs}
use Rattle.ch_contract.specs.Built.{IsHierarchyOf}
use Rattle.ch_contract.specs.OneOrder.{GivenNodesNameOneHierarchy, OrdersNameOneHierarchy}
use Rattle.ch_hierarchy.proofs.theory.Ordered.{ordered_same, every_number}
use Rattle.ch_contract.proofs.theory.RowLegs.{one_row}

-- legs that are the same at each pair are equal
pub one_map : (L M : Legs) → SameLegs L M → L ≡ M
one_map L M same = λ i u w. same u w i

-- a node has one list of shortcuts
pub one_list : (n h : ℕ) (L : Legs) (v : ℕ) (xs ys : List Shortcut) → AreShortcuts n h L v xs → AreShortcuts n h L v ys → xs ≡ ys
one_list n h L v xs ys p q = ordered_same IsPairBefore (λ a b r s. let lt = r.1 s.0 in omega arith) xs ys p.ordered q.ordered
    (λ s c. q.whole s (p.sound s c)) (λ s c. p.whole s (q.sound s c))

-- a contraction has one result
pub one_contraction : (n h : ℕ) (L : Legs) (v : ℕ) (M N : Legs) → Contracts n h L v M → Contracts n h L v N → M ≡ N
one_contraction n h L v M N p q =
    let list = one_list n h L v p.0 q.0 p.1 q.1 in
    one_map M N (λ u w. p.2 u w ∙ ap (λ l. legs_after_contraction L v l u w) list ∙ sym (q.2 u w))

-- a node has one priority
pub one_priority : (by : OrderBy) (n h : ℕ) (L : Legs) (depth : ℕ → ℕ) (v : ℕ) (p q : ℤ) → IsPriorityBy by n h L depth v p →
    IsPriorityBy by n h L depth v q → p ≡ q
one_priority by n h L depth v p q a b =
    let list = one_list n h L v a.0 b.0 a.1 b.1 in
    a.2 ∙ ap (λ l. key_by by (length l) (count_touching n L v) (depth v)) list ∙ sym b.2

-- two orders agree: they have the same nodes in the first i steps, and the same legs up to then
pub record Agree (i : ℕ) (order : List ℕ) (L : ℕ → Legs) (other : List ℕ) (M : ℕ → Legs) : Type 0 where
  pub nodes : (k : ℕ) → k < i → slice_index order k ≡ slice_index other k
  pub legs : (k : ℕ) → k ≤ i → L k ≡ M k

-- agreeing goes both ways
pub agree_back : (i : ℕ) (order : List ℕ) (L : ℕ → Legs) (other : List ℕ) (M : ℕ → Legs) → Agree i order L other M → Agree i other M order L
agree_back i order L other M a = record { nodes = λ k lt. sym (a.nodes k lt); legs = λ k le. sym (a.legs k le) }

-- a step has the same neighbours in orders that agree
neighbours_along : (i : ℕ) (order : List ℕ) (L : ℕ → Legs) (other : List ℕ) (M : ℕ → Legs) (x k : ℕ) → Agree i order L other M → k < i →
    are_neighbours (M k) (slice_index other k) x ≡ are_neighbours (L k) (slice_index order k) x
neighbours_along i order L other M x k a lt =
    let le : k ≤ i = omega arith in λ t. are_neighbours (sym (a.legs k le) t) (sym (a.nodes k lt) t) x

-- depths are the same in orders that agree
pub depth_along : (i : ℕ) (order : List ℕ) (L : ℕ → Legs) (other : List ℕ) (M : ℕ → Legs) → Agree i order L other M → (j : ℕ) → j ≤ i →
    depth_after order L j ≡ depth_after other M j
depth_along i order L other M a zero le = λ t x. 0
depth_along i order L other M a (suc j) le =
    let rest = depth_along i order L other M a j (omega arith) in
    let legs = a.legs j (omega arith) in
    let node = a.nodes j (omega arith) in
    λ t x. next_depth (legs t) (node t) (rest t) x

-- the last touch of a node is the same in orders that agree
pub touch_along : (i : ℕ) (order : List ℕ) (L : ℕ → Legs) (other : List ℕ) (M : ℕ → Legs) (x j : ℕ) → Agree i order L other M →
    IsLastTouch order L i x j → IsLastTouch other M i x j
touch_along i order L other M x j a t = record {
  within = t.within;
  touched = λ first. let le = t.within in neighbours_along i order L other M x (j - 1) a (omega arith) ∙ t.touched first;
  later = λ k le lt. neighbours_along i order L other M x k a lt ∙ t.later k le lt;
}

-- a priority after some given steps is the same in orders that agree
pub from_along : (k : ℕ) (by : OrderBy) (n h i : ℕ) (order : List ℕ) (L : ℕ → Legs) (other : List ℕ) (M : ℕ → Legs) (x : ℕ) (p : ℤ) →
    k ≤ i → Agree i order L other M → IsPriorityFrom k by n h order L i x p → IsPriorityFrom k by n h other M i x p
from_along k by n h i order L other M x p ge a r =
    let within = r.1.within in
    let most : max k r.0 ≤ i = omega arith in
    let deep = subst (λ (d : ℕ → ℕ). IsPriorityBy by n h (L (max k r.0)) d x p) (depth_along i order L other M a (max k r.0) most) r.2 in (
      r.0,
      touch_along i order L other M x r.0 a r.1,
      subst (λ (N : Legs). IsPriorityBy by n h N (depth_after other M (max k r.0)) x p) (a.legs (max k r.0) most) deep,
    )

-- a last touch is not later than another last touch
not_later : (order : List ℕ) (L : ℕ → Legs) (i x j k : ℕ) → IsLastTouch order L i x j → IsLastTouch order L i x k → k ≤ j
not_later order L i x j k t s = elim (cases_lt j k) [
  | inl lt ↦
      let le = s.within in
      let no_touch = t.later (k - 1) (omega arith) (omega arith) in
      let touch = s.touched (omega arith) in
      absurd (false≢true (sym no_touch ∙ touch))
  | inr le ↦ le
]

-- a node has one last touch
one_touch : (order : List ℕ) (L : ℕ → Legs) (i x j k : ℕ) → IsLastTouch order L i x j → IsLastTouch order L i x k → j ≡ k
one_touch order L i x j k t s = let le = not_later order L i x j k t s in let ge = not_later order L i x k j s t in omega arith

-- after some steps a node has one priority
pub one_priority_from : (k : ℕ) (by : OrderBy) (n h : ℕ) (order : List ℕ) (L : ℕ → Legs) (i x : ℕ) (p q : ℤ) →
    IsPriorityFrom k by n h order L i x p → IsPriorityFrom k by n h order L i x q → p ≡ q
one_priority_from k by n h order L i x p q a b =
    one_priority by n h (L (max k a.0)) (depth_after order L (max k a.0)) x p q a.2
    (subst (λ j. IsPriorityBy by n h (L (max k j)) (depth_after order L (max k j)) x q) (sym (one_touch order L i x a.0 b.0 a.1 b.1)) b.2)

-- in an order of different nodes, no node is among those before its place
pub not_before : (i : ℕ) (order : List ℕ) → i < length order → AllPairs ◌≢◌ order → Contains (take i order) (slice_index order i) → ⊥
not_before i order lt distinct c =
    let k = c.0 in
    let short = c.1 in
    let size = length-take i order in
    let before : k < i = omega arith in
    let value = c.2 in
    distinct k i (slice_index order i) before lt (sym (get_or-take i order k (slice_index order i) before) ∙ value
    ∙ get_or_default order i 0 (slice_index order i) lt)

module _ (k : ℕ) (by : OrderBy) (g : Network) (h : ℕ) (order : List ℕ) (L : ℕ → Legs) (other : List ℕ) (M : ℕ → Legs)
    (given : take k order ≡ take k other) (p : AreContracted g h order L) (first : TakesFirstFrom k by g h order L)
    (q : AreContracted g h other M) (its_first : TakesFirstFrom k by g h other M) where
  -- the nodes before a step are the same
  same_before : (i : ℕ) → i ≤ g.nodes → Agree i order L other M → take i order ≡ take i other
  same_before i le a =
      let one = p.nodes.0 in
      let two = q.nodes.0 in
      same_number_lists (take i order) (take i other) (omega (arith, length-take i order, length-take i other)) (λ j lt.
      let size = length-take i order in
      let before : j < i = omega arith in
      get_or-take i order j 0 before ∙ a.nodes j before ∙ sym (get_or-take i other j 0 before))

  -- after the given nodes the next node is the same, because each of the two comes first
  next_first : (i : ℕ) → k ≤ i → i < g.nodes → Agree i order L other M → slice_index order i ≡ slice_index other i
  next_first i ge lt a =
      let size = p.nodes.0 in
      let size2 = q.nodes.0 in
      let here : i < length order = omega arith in
      let there : i < length other = omega arith in
      let taken = same_before i (omega arith) a in
      let one = first i (slice_index other i) ge lt (q.nodes.1 i 0 there)
      (λ c. not_before i other there q.nodes.2 (subst (λ l. Contains l (slice_index other i)) taken c)) in
      let two = its_first i (slice_index order i) ge lt (p.nodes.1 i 0 here)
      (λ c. not_before i order here p.nodes.2 (subst (λ l. Contains l (slice_index order i)) (sym taken) c)) in
      let back = agree_back i order L other M a in
      let mine : one.0 ≡ two.1 = one_priority_from k by g.nodes h order L i (slice_index order i) one.0 two.1 one.2
      (from_along k by g.nodes h i other M order L (slice_index order i) two.1 ge back two.3) in
      let its : one.1 ≡ two.0 = one_priority_from k by g.nodes h order L i (slice_index other i) one.1 two.0 one.3
      (from_along k by g.nodes h i other M order L (slice_index other i) two.0 ge back two.2) in
      let low = one.4.1 (subst (λ z. one.1 ≤ℤ z) (sym mine) (subst (λ z. z ≤ℤ two.1) (sym its) two.4.0)) in
      let high = two.4.1 (subst (λ z. two.1 ≤ℤ z) its (subst (λ z. z ≤ℤ one.1) mine one.4.0)) in
      omega arith

  -- the next node is the same
  next : (i : ℕ) → i < g.nodes → Agree i order L other M → slice_index order i ≡ slice_index other i
  next i lt a = elim (cases_lt i k) [
    | inl early ↦ sym (get_or-take k order i 0 early) ∙ ap (λ l. slice_index l i) given ∙ get_or-take k other i 0 early
    | inr late ↦ next_first i (omega arith) lt a
  ]

  -- the orders agree up to each step
  agree : (i : ℕ) → i ≤ g.nodes → Agree i order L other M
  agree zero le = record {
    nodes = λ j lt. absurd (omega arith);
    legs = λ j below. let none : j ≡ 0 = omega arith in
        subst (λ z. L z ≡ M z) (sym none) (one_map (L 0) (M 0) (λ u w. p.start u w ∙ sym (q.start u w)));
  }
  agree (suc i) le = more (agree i (omega arith))
    where
      more : Agree i order L other M → Agree (suc i) order L other M
      more a =
          let lt : i < g.nodes = omega arith in
          let node = next i lt a in
          let step = subst (λ (N : Legs). Contracts g.nodes h N (slice_index order i) (M (i + 1))) (sym (a.legs i (omega arith)))
          (subst (λ v. Contracts g.nodes h (M i) v (M (i + 1))) (sym node) (q.step i lt)) in
          record {
            nodes = λ j below. elim (cases_eq j i) [
              | inl e ↦ subst (λ z. slice_index order z ≡ slice_index other z) (sym e) node
              | inr ne ↦ a.nodes j (omega arith)
            ];
            legs = λ j below. elim (cases_lt i j) [
              | inl past ↦ let e : j ≡ i + 1 = omega arith in
                  subst (λ z. L z ≡ M z) (sym e) (one_contraction g.nodes h (L i) (slice_index order i) (L (i + 1)) (M (i + 1))
                  (p.step i lt) step)
              | inr within ↦ a.legs j (omega arith)
            ];
          }

-- each node is taken at some step
pub taken_at : (n : ℕ) (order : List ℕ) (x : ℕ) → (length order ≡ n) × All (λ v. v < n) order × AllPairs ◌≢◌ order → x < n →
    (i : ℕ) × (i < n) × (slice_index order i ≡ x)
taken_at n order x nodes lt =
    let size = nodes.0 in
    let c = every_number order n x size nodes.1 nodes.2 lt in
    let within = c.1 in
    (c.0, omega arith, get_or_default order c.0 0 x within ∙ c.2)

-- lists of n rows with the same rows are equal
pub same_rows : (n : ℕ) (xs ys : List (List Leg)) → length xs ≡ n → length ys ≡ n → ((x : ℕ) → x < n → row xs x ≡ row ys x) → xs ≡ ys
same_rows n xs ys a b each = same_lists xs ys (a ∙ sym b)
    (λ k d lt. get_or_default xs k d [] lt ∙ each k (omega arith) ∙ sym (get_or_default ys k d [] (omega arith)))

module _ (g : Network) (h : ℕ) (H K : LevelsAndLegs) (order : List ℕ) (L : ℕ → Legs) (other : List ℕ) (M : ℕ → Legs)
    (p : IsHierarchyOf g h H order L) (q : IsHierarchyOf g h K other M) (all : Agree g.nodes order L other M) where
  -- the levels are the same
  levels : H.level ≡ K.level
  levels = same_number_lists H.level K.level (p.sizes.0 ∙ sym q.sizes.0) (λ x lt.
      let size = p.sizes.0 in
      let at = taken_at g.nodes order x p.contracted.nodes (omega arith) in
      ap (slice_index H.level) (sym at.2) ∙ p.level at.0 at.1 ∙ sym (q.level at.0 at.1)
      ∙ ap (slice_index K.level) (sym (all.nodes at.0 at.1) ∙ at.2))

  -- the rows are the same, for the legs before each step in either direction
  rows_agree : (turn : Legs → Legs) (xs ys : List (List Leg)) → length xs ≡ g.nodes → length ys ≡ g.nodes →
      ((i : ℕ) → i < g.nodes → AreLegsFrom (turn (L i)) (slice_index order i) (row xs (slice_index order i))) →
      ((i : ℕ) → i < g.nodes → AreLegsFrom (turn (M i)) (slice_index other i) (row ys (slice_index other i))) → xs ≡ ys
  rows_agree turn xs ys a b ours theirs = same_rows g.nodes xs ys a b (λ x lt.
      let at = taken_at g.nodes order x p.contracted.nodes lt in
      let one = subst (λ v. AreLegsFrom (turn (L at.0)) v (row xs v)) at.2 (ours at.0 at.1) in
      let two = subst (λ (N : Legs). AreLegsFrom (turn N) x (row ys x)) (sym (all.legs at.0 (omega (arith, at.1))))
      (subst (λ v. AreLegsFrom (turn (M at.0)) v (row ys v)) (sym (all.nodes at.0 at.1) ∙ at.2) (theirs at.0 at.1)) in
      one_row (turn (L at.0) x) (row xs x) (row ys x) one.0 two.0 one.1 two.1)

  -- the up rows are the same
  ups : H.up ≡ K.up
  ups = rows_agree (λ N. N) H.up K.up p.sizes.1 q.sizes.1 p.up q.up

  -- the down rows are the same
  downs : H.down ≡ K.down
  downs = rows_agree turned_legs H.down K.down p.sizes.2 q.sizes.2 p.down q.down

  -- the two hierarchies are equal
  pub one_of_order : H ≡ K
  one_of_order = λ i. record { level = levels i; up = ups i; down = downs i }

-- two hierarchies with the same given nodes, and then in the same order, are equal
pub one_hierarchy_from : GivenNodesNameOneHierarchy
one_hierarchy_from by g h given H K p q =
    one_of_order g h H K p.0 p.1 q.0 q.1 p.2 q.2 (agree (length given) by g h p.0 p.1 q.0 q.1 (p.3 ∙ sym q.3) p.2.contracted p.4
    q.2.contracted q.4 g.nodes (omega arith))

-- two hierarchies of nodes that are contracted in the same list are equal
pub one_hierarchy_in_order : OrdersNameOneHierarchy
one_hierarchy_in_order g h order H K p q =
    let size = p.1.contracted.nodes.0 in
    let none : (N : ℕ → Legs) → TakesFirstFrom (length order) Depth g h order N = λ N i x ge lt inside away. absurd (omega arith) in
    one_of_order g h H K order p.0 order q.0 p.1 q.1
    (agree (length order) Depth g h order p.0 order q.0 (λ t. take (length order) order) p.1.contracted (none p.0)
    q.1.contracted (none q.0) g.nodes (omega arith))
