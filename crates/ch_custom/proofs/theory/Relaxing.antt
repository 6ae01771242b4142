-- One step of customization keeps the arrays of a topology right.
use Rattle.std.proofs.Common.{◌≡◌, ℕ, ◌+◌, ◌<◌, ◌≤◌, List, [], ◌∷◌, length, get_or, Contains, Option, Some, None, refl, sym, ◌∙◌, ap}
use Rattle.std.proofs.Common.{subst, arith, inl, inr}
use Rattle.std.specs.Prelude.{◌⊎◌, ◌≢◌, All, map, min, slice_index, slice_index_or}
use Rattle.std.proofs.lemmas.Bool.{cases_eq, cases_lt}
use Rattle.std.proofs.lemmas.Option.{none-some}
use Rattle.std.proofs.lemmas.List.{get_or-map, length-map, ext_get_or}
use Rattle.std.proofs.lemmas.List.Elements.{Contains-get_or}
use Rattle.ch_graph.proofs.Lists.{contains_head, contains_tail, contains_cons, contains_none, contains_map, contains_map_of}
use Rattle.ch_hierarchy.specs.declared.leg.Leg.{Leg}
use Rattle.ch_hierarchy.specs.Rows.{row}
use Rattle.ch_contract.specs.Legs.{Label, Legs}
use Rattle.ch_custom.specs.Customizing.{leg_over}
use Rattle.ch_custom.specs.Metric.{held_leg, IsHeld, AreLoweredOver}
use Rattle.ch_custom.specs.Topologies.{AreHigher, HasLegs, IsMetric, AreRelaxed, leg_over_at, HasNone, RelaxingKeepsMetrics}

-- some leg of the list has this node, or none has
pub leg_at : (legs : List Leg) (x : ℕ) → ((l : Leg) × Contains legs l × (l.node ≡ x)) ⊎ ((l : Leg) → Contains legs l → l.node ≡ x → ⊥)
leg_at [] x = inr (λ l c e. contains_none l c)
leg_at (m ∷ legs) x = at (leg_at legs x)
  where
    at : ((l : Leg) × Contains legs l × (l.node ≡ x)) ⊎ ((l : Leg) → Contains legs l → l.node ≡ x → ⊥) →
        ((l : Leg) × Contains (m ∷ legs) l × (l.node ≡ x)) ⊎ ((l : Leg) → Contains (m ∷ legs) l → l.node ≡ x → ⊥)
    at (inl some) = inl (some.0, contains_tail some.0 m legs some.1, some.2)
    at (inr none) = elim (cases_eq m.node x) [
      | inl same ↦ inl (m, contains_head m legs, same)
      | inr ne ↦ inr (λ l c e. elim (contains_cons m l legs c) [
        | inl is ↦ ne (ap (λ (z : Leg). z.node) is ∙ e)
        | inr later ↦ none l later e
      ])
    ]

-- the node of a leg, as a function
abbrev pub node_of : Leg → ℕ
node_of l = l.node

-- the nodes at one place of two rows are the same if the rows have the same nodes
pub same_node : (xs ys : List Leg) (a : ℕ) (d e : Leg) → map (λ l. l.node) xs ≡ map (λ l. l.node) ys → a < length ys →
    (get_or xs a d).node ≡ (get_or ys a e).node
same_node xs ys a d e same lt =
    let size : length xs ≡ length ys = sym (length-map xs node_of) ∙ ap length same ∙ length-map ys node_of in
    let inside : a < length xs = omega arith in
    sym (get_or-map node_of xs a d 0 inside) ∙ ap (λ (z : List ℕ). get_or z a 0) same ∙ get_or-map node_of ys a e 0 lt

-- the rows have the same nodes if they do so at each place
pub same_nodes : (xs ys : List Leg) → length xs ≡ length ys →
    ((a : ℕ) (d : Leg) → a < length ys → (get_or xs a d).node ≡ (get_or ys a d).node) → map node_of xs ≡ map node_of ys
same_nodes xs ys size each = at xs ys size each
  where
    at : (xs ys : List Leg) → length xs ≡ length ys → ((a : ℕ) (d : Leg) → a < length ys → (get_or xs a d).node ≡ (get_or ys a d).node) →
        map node_of xs ≡ map node_of ys
    at xs ys size each = ext_get_or 0 (map node_of xs) (map node_of ys) (length-map xs node_of ∙ size ∙ sym (length-map ys node_of))
        (λ i lt.
        let here : i < length xs = subst (λ z. i < z) (length-map xs node_of) lt in
        let there : i < length ys = omega arith in
        get_or-map node_of xs i (get_or xs i blank) 0 here ∙ each i (get_or xs i blank) there
        ∙ sym (get_or-map node_of ys i (get_or xs i blank) 0 there))
      where
        blank : Leg
        blank = record { node = 0; cost = record { weight = 0; arcs = 0 }; middle = None }

-- a leg that is lowered over no second leg stays
over_none : (n v : ℕ) (o p q : Option Label) → p ≡ None → leg_over n v o p q ≡ q
over_none n v None p q e = refl
over_none n v (Some a) None q e = refl
over_none n v (Some a) (Some b) q e = absurd (none-some b (sym e))

-- a leg that is lowered over no first leg stays
over_no_first : (n v : ℕ) (o p q : Option Label) → o ≡ None → leg_over n v o p q ≡ q
over_no_first n v None p q e = refl
over_no_first n v (Some a) p q e = absurd (none-some a (sym e))

-- the arrays have the rows `own`, and the node that is taken has its whole row
module _ (n : ℕ) (order : List ℕ) (rows own : List (List ℕ)) (T : ℕ → Legs) (k : ℕ) (firsts seconds : List Leg) (old new : List (List Leg))
    (small : k < n) (single : (i j : ℕ) → i < n → j < n → slice_index order i ≡ slice_index order j → i ≡ j)
    (higher : AreHigher n order rows) (higher_own : AreHigher n order own)
    (low : (x w : ℕ) → x ≢ slice_index order k → w ≢ slice_index order k → x ≢ w →
    T (k + 1) x w ≡ leg_over_at n (slice_index order k) (T k) x w)
    (stays : (i : ℕ) → k < i → i < n → (Contains (slice_index_or rows (slice_index order k) []) (slice_index order i) → ⊥) →
    HasNone (T k) (slice_index order k) (slice_index order i))
    (one : HasLegs (λ x. T k x (slice_index order k)) (slice_index_or rows (slice_index order k) []) firsts)
    (two : HasLegs (T k (slice_index order k)) (slice_index_or rows (slice_index order k) []) seconds)
    (metric : IsMetric n order own (λ i. T (min i k)) old) (relaxed : AreRelaxed n (slice_index order k) firsts seconds old new) where
  abbrev node : ℕ → ℕ
  node i = slice_index order i

  abbrev v : ℕ
  v = slice_index order k

  abbrev row_of : ℕ → List ℕ
  row_of x = slice_index_or rows x []

  abbrev own_row : ℕ → List ℕ
  own_row x = slice_index_or own x []

  -- different places have different nodes
  apart : (i j : ℕ) → i < j → j < n → node i ≢ node j
  apart i j lt below e = let same = single i j (omega arith) below e in omega arith

  -- a leg of `seconds` for each node of the row, and only for these
  of_row : (x : ℕ) → Contains (row_of v) x → (l : Leg) × Contains seconds l × (l.node ≡ x)
  of_row x c = contains_map_of node_of seconds x (subst (λ (z : List ℕ). Contains z x) (sym two.ends) c)

  -- the node of a leg of `seconds` is in the row
  in_row : (l : Leg) → Contains seconds l → Contains (row_of v) l.node
  in_row l c = subst (λ (z : List ℕ). Contains z l.node) two.ends (contains_map node_of seconds l c)

  module _ (i : ℕ) (past : k < i) (lt : i < n) where
    -- the legs of the row before the step
    before : HasLegs (T k (node i)) (own_row (node i)) (row old (node i))
    before = let e : min i k ≡ k = omega arith in
        subst (λ z. HasLegs (T z (node i)) (own_row (node i)) (row old (node i))) e (metric.each i lt)

    -- the node of the row is not v, and the nodes in the row are neither
    others : (w : ℕ) → Contains (own_row (node i)) w → (w ≢ v) × (node i ≢ v) × (node i ≢ w) × ((j : ℕ) × (k < j) × (j < n) × (node j ≡ w))
    others w c =
        let h = higher_own i w lt c in (
          (λ e. apart k h.0 (omega (arith, h.1)) h.2 (sym (h.3 ∙ e))),
          (λ e. apart k i past lt (sym e)),
          (λ e. apart i h.0 h.1 h.2 (e ∙ sym h.3)),
          (h.0, omega (arith, h.1), h.2, h.3),
        )

    -- the node of a leg of the row is in the row of the topology
    within : (l : Leg) → Contains (row old (node i)) l → Contains (own_row (node i)) l.node
    within l c = subst (λ (z : List ℕ). Contains z l.node) before.ends (contains_map node_of (row old (node i)) l c)

    -- a row that is not lowered has the right legs
    untouched : (Contains (row_of v) (node i) → ⊥) → row new (node i) ≡ row old (node i) →
        HasLegs (T (k + 1) (node i)) (own_row (node i)) (row new (node i))
    untouched none same = subst (HasLegs (T (k + 1) (node i)) (own_row (node i))) (sym same) (record {
      ends = before.ends;
      each = λ l c.
          let o = others l.node (within l c) in
          before.each l c ∙ sym (low (node i) l.node o.1 o.0 o.2 ∙ over_no_first n v _ _ _ (stays i past lt none).1);
      held = before.held;
    })

    -- a row that is lowered has the right legs
    touched : (a : ℕ) (d : Leg) → a < length seconds → (get_or seconds a d).node ≡ node i →
        AreLoweredOver n v (get_or firsts a d) seconds (row old (node i)) (row new (node i)) → All IsHeld (row new (node i)) →
        HasLegs (T (k + 1) (node i)) (own_row (node i)) (row new (node i))
    touched a d inside is rel held = record {
      ends = same_nodes (row new (node i)) (row old (node i)) rel.size rel.nodes ∙ before.ends;
      each = λ l c.
          let size = rel.size in
          let q = c.0 in
          let lt = c.1 in
          let there : q < length (row old (node i)) = omega arith in
          let b : Leg = get_or (row old (node i)) q l in
          let cb : Contains (row old (node i)) b = Contains-get_or (row old (node i)) q l there in
          let at : l.node ≡ b.node = ap node_of (sym c.2) ∙ rel.nodes q l there in
          let o = others b.node (within b cb) in
          let mine : held_leg (get_or firsts a d) ≡ T k (node i) v =
          let many : length firsts ≡ length seconds = sym (length-map firsts node_of) ∙ ap length (one.ends ∙ sym two.ends)
          ∙ length-map seconds node_of in
          one.each (get_or firsts a d) (Contains-get_or firsts a d (omega arith))
          ∙ ap (λ z. T k z v) (same_node firsts seconds a d d (one.ends ∙ sym two.ends) inside ∙ is) in
          let now : T (k + 1) (node i) b.node ≡ leg_over n v (T k (node i) v) (T k v b.node) (T k (node i) b.node) =
          low (node i) b.node o.1 o.0 o.2 in
          elim (leg_at seconds b.node) [
            | inl m ↦
                ap held_leg (sym c.2) ∙ rel.lowered q l m.0 there m.1 m.2
                ∙ ap (λ z. leg_over n v z (held_leg m.0) (held_leg b)) mine
                ∙ ap (λ z. leg_over n v (T k (node i) v) z (held_leg b)) (two.each m.0 m.1 ∙ ap (T k v) m.2)
                ∙ ap (λ z. leg_over n v (T k (node i) v) (T k v b.node) z) (before.each b cb)
                ∙ sym now ∙ ap (T (k + 1) (node i)) (sym at)
            | inr none ↦
                let j = o.3 in
                let gone : T k v b.node ≡ None =
                subst (λ z. T k v z ≡ None) j.3
                (stays j.0 j.1 j.2 (λ in_it. let m = of_row (node j.0) in_it in none m.0 m.1 (m.2 ∙ j.3))).0 in
                ap held_leg (sym c.2 ∙ rel.kept q l there none) ∙ before.each b cb
                ∙ sym (over_none n v (T k (node i) v) (T k v b.node) (T k (node i) b.node) gone)
                ∙ sym now ∙ ap (T (k + 1) (node i)) (sym at)
          ];
      held = held;
    }

  -- a row of a place that was taken before, or is taken now, stays
  frozen : (i : ℕ) → i ≤ k → i < n → HasLegs (T (min i (k + 1)) (node i)) (own_row (node i)) (row new (node i))
  frozen i le lt =
      let e : min i k ≡ min i (k + 1) = omega arith in
      let same : row new (node i) ≡ row old (node i) = relaxed.kept (node i) (λ a d first inside at.
      let c = subst (Contains (row_of v)) at (in_row (get_or seconds a d) (Contains-get_or seconds a d inside)) in
      let h = higher k (node i) small c in
      apart i h.0 (omega (arith, h.1)) h.2 (sym h.3))
      in
      subst (HasLegs (T (min i (k + 1)) (node i)) (own_row (node i))) (sym same)
      (subst (λ z. HasLegs (T z (node i)) (own_row (node i)) (row old (node i))) e (metric.each i lt))

  -- the row of a later place
  later : (i : ℕ) → k < i → i < n → HasLegs (T (k + 1) (node i)) (own_row (node i)) (row new (node i))
  later i past lt = elim (leg_at seconds (node i)) [
    | inl m ↦
        let c = m.1 in
        let is : (get_or seconds c.0 m.0).node ≡ node i = ap node_of c.2 ∙ m.2 in
        touched i past lt c.0 m.0 c.1 is
        (subst (λ z. AreLoweredOver n v (get_or firsts c.0 m.0) seconds (row old z) (row new z)) is (relaxed.lowered c.0 m.0 c.1 c.1))
        (subst (λ z. All IsHeld (row new z)) is (relaxed.held c.0 m.0 c.1 c.1))
    | inr none ↦ untouched i past lt (λ c. let m = of_row (node i) c in none m.0 m.1 m.2)
        (relaxed.kept (node i) (λ a d first inside at. none (get_or seconds a d) (Contains-get_or seconds a d inside) at))
  ]

  -- all rows are right after the step
  pub keeps_metric : IsMetric n order own (λ i. T (min i (k + 1))) new
  keeps_metric = record {
    size = relaxed.size ∙ metric.size;
    each = λ i lt. elim (cases_lt k i) [
      | inl past ↦ let e : k + 1 ≡ min i (k + 1) = omega arith in
          subst (λ z. HasLegs (T z (node i)) (own_row (node i)) (row new (node i))) e (later i past lt)
      | inr le ↦ frozen i le lt
    ];
  }

module _ (n : ℕ) (order : List ℕ) (rows own : List (List ℕ)) (T : ℕ → Legs) (k : ℕ)
    (single : (i j : ℕ) → i < n → j < n → slice_index order i ≡ slice_index order j → i ≡ j) (higher_own : AreHigher n order own)
    (low : (x w : ℕ) → x ≢ slice_index order k → w ≢ slice_index order k → x ≢ w →
    T (k + 1) x w ≡ leg_over_at n (slice_index order k) (T k) x w)
    (stays : (i : ℕ) → k < i → i < n → (Contains (slice_index_or rows (slice_index order k) []) (slice_index order i) → ⊥) →
    HasNone (T k) (slice_index order k) (slice_index order i))
    (passes : (i x : ℕ) → k < i → i < n → Contains (slice_index_or own (slice_index order i) []) x →
    Contains (slice_index_or rows (slice_index order k) []) (slice_index order i) → ⊥) where
  -- a later row of the arrays is not in the row of the node that is taken, so its legs stay
  passed_row : (i : ℕ) → k < i → i < n → (legs : List Leg) →
      HasLegs (T k (slice_index order i)) (slice_index_or own (slice_index order i) []) legs →
      HasLegs (T (k + 1) (slice_index order i)) (slice_index_or own (slice_index order i) []) legs
  passed_row i past lt legs has = record {
    ends = has.ends;
    each = λ l c.
        let in_row = subst (λ (z : List ℕ). Contains z l.node) has.ends (contains_map node_of legs l c) in
        let h = higher_own i l.node lt in_row in
        let here : slice_index order i ≢ slice_index order k =
        λ e. (let same = single i k lt (omega arith) e in omega arith) in
        let there : l.node ≢ slice_index order k =
        λ e. (let same = single h.0 k h.2 (omega arith) (h.3 ∙ e) in omega (arith, h.1)) in
        let apart : slice_index order i ≢ l.node =
        λ e. (let same = single i h.0 lt h.2 (e ∙ sym h.3) in omega (arith, h.1)) in
        has.each l c
        ∙ sym (low (slice_index order i) l.node here there apart
        ∙ over_no_first n (slice_index order k) _ _ _ (stays i past lt (passes i l.node past lt in_row)).1);
    held = has.held;
  }

  -- all rows are right after the step, though none is lowered
  pub passed : (metric : List (List Leg)) → IsMetric n order own (λ i. T (min i k)) metric →
      IsMetric n order own (λ i. T (min i (k + 1))) metric
  passed metric are = record {
    size = are.size;
    each = λ i lt. elim (cases_lt k i) [
      | inl past ↦
          let e : k ≡ min i k = omega arith in
          let f : k + 1 ≡ min i (k + 1) = omega arith in
          subst (λ z. HasLegs (T z (slice_index order i)) (slice_index_or own (slice_index order i) [])
          (row metric (slice_index order i))) f (passed_row i past lt (row metric (slice_index order i))
          (subst (λ z. HasLegs (T z (slice_index order i)) (slice_index_or own (slice_index order i) [])
          (row metric (slice_index order i))) (sym e) (are.each i lt)))
      | inr le ↦ let e : min i k ≡ min i (k + 1) = omega arith in
          subst (λ z. HasLegs (T z (slice_index order i)) (slice_index_or own (slice_index order i) [])
          (row metric (slice_index order i))) e (are.each i lt)
    ];
  }

-- one step keeps the arrays right
pub relaxing_keeps_metrics : RelaxingKeepsMetrics
relaxing_keeps_metrics n order rows T k firsts seconds old new small single higher low stays one two metric relaxed =
    keeps_metric n order rows rows T k firsts seconds old new small single higher higher low stays one two metric relaxed
