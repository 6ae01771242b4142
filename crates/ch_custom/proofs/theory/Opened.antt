-- The arrays after the arcs are put in.
use Rattle.std.proofs.Common.{◌≡◌, ℕ, ◌+◌, ◌*◌, ◌<◌, ◌≤◌, Bool, true, false, cond, List, [], ◌∷◌, ◌++◌, length, get_or, set, take}
use Rattle.std.proofs.Common.{Contains, Option, Some, None, refl, sym, ◌∙◌, ap, subst, arith, inl, inr, length-set, get_or-set_same}
use Rattle.std.proofs.Common.{get_or-set_other}
use Rattle.std.specs.Prelude.{◌≢◌, ◌==◌, ◌&&◌, map, min, nat_le, nat_lt, slice_index, slice_index_or}
use Rattle.std.proofs.lemmas.Bool.{cases_eq, eqb-true, eqb-false}
use Rattle.std.proofs.lemmas.Bool.Decides.{nat_tests}
use Rattle.std.proofs.lemmas.Option.{same_Some, none-some}
use Rattle.std.proofs.lemmas.Simd.{map-map}
use Rattle.std.proofs.lemmas.List.{get_or-map, length-map, take_all}
use Rattle.ch_graph.specs.declared.limits.TheConstants.{MOST_WEIGHT}
use Rattle.ch_graph.specs.declared.arc.InArc.{InArc}
use Rattle.ch_graph.specs.Graph.{Network, IsWithinLimits}
use Rattle.ch_graph.proofs.Lists.{contains_map, contains_map_of}
use Rattle.ch_hierarchy.specs.declared.leg.Leg.{Leg}
use Rattle.ch_hierarchy.specs.Rows.{row}
use Rattle.ch_hierarchy.specs.Saved.{IsOrderOf, AreLevelsOf}
use Rattle.ch_hierarchy.proofs.theory.Ordered.{same_ends}
use Rattle.ch_contract.specs.Legs.{Label, turned_legs, opening, arc_label, arc_label_of, least_weight, lesser_weight}
use Rattle.ch_contract.proofs.code.OpenLists.{least_weight_push}
use Rattle.ch_custom.specs.Metric.{held_leg, IsHeld}
use Rattle.ch_custom.specs.Topologies.{AreHigher, HasLegs, IsMetric, legs_after, AreRowsIn, AreMetricsAt}
use Rattle.ch_custom.specs.Opening.{no_leg, lightened, legs_of, AreOfArcs, IsPut}
use Rattle.ch_custom.proofs.theory.Relaxing.{node_of, same_nodes}
use Rattle.ch_custom.proofs.theory.RowLoops.{take_more}

-- a leg that may become lighter stays at its node
lightened_node : (y weight : ℕ) (l : Leg) → (lightened y weight l).node ≡ l.node
lightened_node y weight l = at (l.node == y && nat_lt weight l.cost.weight)
  where
    at : (b : Bool) → (cond b (record { node = l.node; cost = record { weight = weight; arcs = 1 }; middle = None }) l).node ≡ l.node
    at true = refl
    at false = refl

-- it can still be added up
lightened_held : (y weight : ℕ) (l : Leg) → IsHeld l → IsHeld (lightened y weight l)
lightened_held y weight l held = at (l.node == y) (nat_lt weight l.cost.weight) refl
  where
    at : (a b : Bool) → nat_lt weight l.cost.weight ≡ b →
        IsHeld (cond (a && b) (record { node = l.node; cost = record { weight = weight; arcs = 1 }; middle = None }) l)
    at true true e = (grind (arith, nat_tests, held), grind arith)
    at true false e = held
    at false b e = held

-- a leg at another node stays
lightened_other : (y weight : ℕ) (l : Leg) → l.node ≢ y → lightened y weight l ≡ l
lightened_other y weight l ne = at (l.node == y) refl
  where
    at : (a : Bool) → (l.node == y) ≡ a →
        cond (a && nat_lt weight l.cost.weight) (record { node = l.node; cost = record { weight = weight; arcs = 1 }; middle = None }) l ≡ l
    at true e = absurd (ne (eqb-true l.node y e))
    at false e = refl

-- the leg at the node of the arc is that of the lighter of both
lightened_here : (y weight : ℕ) (l : Leg) (o : Option ℕ) → l.node ≡ y → weight ≤ MOST_WEIGHT → held_leg l ≡ arc_label_of o →
    held_leg (lightened y weight l) ≡ arc_label_of (Some (lesser_weight weight o))
lightened_here y weight l o is light held =
    at (l.node == y) (nat_lt weight l.cost.weight) (nat_le l.cost.weight MOST_WEIGHT) o refl refl refl held
  where
    new : Leg
    new = record { node = l.node; cost = record { weight = weight; arcs = 1 }; middle = None }

    fits : held_leg new ≡ Some (arc_label weight)
    fits = let e : nat_le weight MOST_WEIGHT ≡ true = grind (arith, nat_tests) in rw e refl

    at : (a b d : Bool) (o : Option ℕ) → (l.node == y) ≡ a → nat_lt weight l.cost.weight ≡ b → nat_le l.cost.weight MOST_WEIGHT ≡ d →
        cond d (Some (record { cost = l.cost; middle = l.middle })) None ≡ arc_label_of o →
        held_leg (cond (a && b) new l) ≡ arc_label_of (Some (lesser_weight weight o))
    at false b d o e f k h = absurd (eqb-false l.node y e is)
    at true b true None e f k h = absurd (none-some _ (sym h))
    at true b false (Some z) e f k h = absurd (none-some _ h)
    at true true false None e f k h = fits
    at true false false None e f k h = absurd (let x : weight < l.cost.weight = grind (arith, nat_tests) in grind (arith, nat_tests))
    at true true true (Some z) e f k h =
        let same : l.cost.weight ≡ z = ap (λ (q : Label). q.cost.weight) (same_Some _ _ h) in
        let less : min weight z ≡ weight = grind (arith, nat_tests) in
        fits ∙ ap (λ q. Some (arc_label q)) (sym less)
    at true false true (Some z) e f k h =
        let same : l.cost.weight ≡ z = ap (λ (q : Label). q.cost.weight) (same_Some _ _ h) in
        let less : min weight z ≡ z = grind (arith, nat_tests) in
        ap (λ q. cond q (Some (record { cost = l.cost; middle = l.middle })) None) k ∙ h ∙ ap (λ q. Some (arc_label q)) (sym less)

-- a row that is lightened at one node
lightened_row : (S T : ℕ → Option ℕ) (nodes : List ℕ) (legs : List Leg) (y weight : ℕ) → HasLegs (λ w. arc_label_of (S w)) nodes legs →
    weight ≤ MOST_WEIGHT → T y ≡ Some (lesser_weight weight (S y)) → ((w : ℕ) → w ≢ y → T w ≡ S w) →
    HasLegs (λ w. arc_label_of (T w)) nodes (map (lightened y weight) legs)
lightened_row S T nodes legs y weight has light here other = record {
  ends = same_nodes (map (lightened y weight) legs) legs (length-map legs (lightened y weight))
      (λ a d lt. ap node_of (get_or-map (lightened y weight) legs a d d lt) ∙ lightened_node y weight (get_or legs a d)) ∙ has.ends;
  each = λ l c.
      let m = contains_map_of (lightened y weight) legs l c in
      let at : l.node ≡ m.0.node = ap node_of (sym m.2) ∙ lightened_node y weight m.0 in
      elim (cases_eq m.0.node y) [
        | inl is ↦
            ap held_leg (sym m.2) ∙ lightened_here y weight m.0 (S m.0.node) is light (has.each m.0 m.1)
            ∙ ap (λ z. arc_label_of (Some (lesser_weight weight (S z)))) is ∙ ap arc_label_of (sym here)
            ∙ ap (λ z. arc_label_of (T z)) (sym (at ∙ is))
        | inr ne ↦
            ap held_leg (sym m.2 ∙ lightened_other y weight m.0 ne) ∙ has.each m.0 m.1 ∙ ap arc_label_of (sym (other m.0.node ne))
            ∙ ap (λ z. arc_label_of (T z)) (sym at)
      ];
  held = λ k d lt.
      let size = length-map legs (lightened y weight) in
      let below : k < length legs = omega arith in
      subst IsHeld (sym (get_or-map (lightened y weight) legs k d d below))
      (lightened_held y weight (get_or legs k d) (has.held k d below));
}

module _ (n : ℕ) (order : List ℕ) (rows : List (List ℕ)) (S T : ℕ → ℕ → Option ℕ) (metric : List (List Leg))
    (are : IsMetric n order rows (λ i u w. arc_label_of (S u w)) metric) where
  -- rows that are not lightened
  same_metric : ((i w : ℕ) → i < n → Contains (slice_index_or rows (slice_index order i) []) w →
      T (slice_index order i) w ≡ S (slice_index order i) w) → IsMetric n order rows (λ i u w. arc_label_of (T u w)) metric
  same_metric same = record {
    size = are.size;
    each = λ i lt. let has = are.each i lt in record {
      ends = has.ends;
      each = λ l c. has.each l c
          ∙ ap arc_label_of (sym
          (same i l.node lt (subst (λ (z : List ℕ). Contains z l.node) has.ends
          (contains_map node_of (row metric (slice_index order i)) l c))));
      held = has.held;
    };
  }

  -- rows of which one is lightened at one node
  lightened_metric : (x y weight : ℕ) (new : List (List Leg)) → x < length metric → weight ≤ MOST_WEIGHT →
      new ≡ set metric x (map (lightened y weight) (row metric x)) → T x y ≡ Some (lesser_weight weight (S x y)) →
      ((u w : ℕ) → (u ≡ x → w ≡ y → ⊥) → T u w ≡ S u w) → IsMetric n order rows (λ i u w. arc_label_of (T u w)) new
  lightened_metric x y weight new below light edited here other = record {
    size = ap length edited ∙ length-set metric x (map (lightened y weight) (row metric x)) ∙ are.size;
    each = λ i lt. let has = are.each i lt in elim (cases_eq (slice_index order i) x) [
      | inl is ↦
          let now : row new (slice_index order i) ≡ map (lightened y weight) (row metric (slice_index order i)) =
          ap (λ z. row z (slice_index order i)) edited ∙ ap (λ z. row (set metric x (map (lightened y weight) (row metric x))) z) is
          ∙ get_or-set_same metric x (map (lightened y weight) (row metric x)) [] below
          ∙ ap (λ z. map (lightened y weight) (row metric z)) (sym is) in
          subst (HasLegs (λ w. arc_label_of (T (slice_index order i) w)) (slice_index_or rows (slice_index order i) [])) (sym now)
          (lightened_row (S (slice_index order i)) (T (slice_index order i)) _ _ y weight has light
          (subst (λ z. T z y ≡ Some (lesser_weight weight (S z y))) (sym is) here)
          (λ w ne. other (slice_index order i) w (λ a b. ne b)))
      | inr ne ↦
          let now : row new (slice_index order i) ≡ row metric (slice_index order i) = ap (λ z. row z (slice_index order i)) edited
          ∙ get_or-set_other metric x (slice_index order i) (map (lightened y weight) (row metric x)) [] ne in
          subst (HasLegs (λ w. arc_label_of (T (slice_index order i) w)) (slice_index_or rows (slice_index order i) [])) (sym now) (record {
            ends = has.ends;
            each = λ l c. has.each l c ∙ ap arc_label_of (sym (other (slice_index order i) l.node (λ a b. ne a)));
            held = has.held;
          })
    ];
  }

-- the least weight after one more arc, between its ends and between others
push_here : (arcs : List InArc) (a : InArc) →
    least_weight a.from a.to (arcs ++ a ∷ []) ≡ Some (lesser_weight a.weight (least_weight a.from a.to arcs))
push_here arcs a = least_weight_push a.from a.to arcs a
    ∙ (let e : (a.from == a.from && a.to == a.to) ≡ true = grind (arith, nat_tests) in rw e refl)

push_other : (u w : ℕ) (arcs : List InArc) (a : InArc) → (u ≡ a.from → w ≡ a.to → ⊥) →
    least_weight u w (arcs ++ a ∷ []) ≡ least_weight u w arcs
push_other u w arcs a ne = least_weight_push u w arcs a ∙ at (a.from == u && a.to == w) refl
  where
    at : (b : Bool) → (a.from == u && a.to == w) ≡ b →
        cond b (Some (lesser_weight a.weight (least_weight u w arcs))) (least_weight u w arcs) ≡ least_weight u w arcs
    at true e = let is = same_ends u w a.from a.to e in absurd (ne (sym is.0) (sym is.1))
    at false e = refl

module _ (g : Network) (order levels : List ℕ) (rows : List (List ℕ)) (limits : IsWithinLimits g) (ready : AreRowsIn g order rows)
    (levelled : AreLevelsOf order levels) where
  -- the order has each node once
  is_order : IsOrderOf g.nodes order
  is_order = subst (λ n. IsOrderOf n order) ready.size ready.sound.nodes

  -- the rows lead to higher places
  higher : AreHigher g.nodes order rows
  higher = subst (λ n. AreHigher n order rows) ready.size ready.sound.higher

  -- a node in a row has a greater level
  rising : (i w : ℕ) → i < g.nodes → Contains (slice_index_or rows (slice_index order i) []) w →
      slice_index levels (slice_index order i) < slice_index levels w
  rising i w lt c =
      let count = is_order.count in
      let h = higher i w lt c in
      let mine = levelled.each i (omega arith) in
      let its = levelled.each h.0 (omega (arith, h.2)) in
      let same : slice_index levels (slice_index order h.0) ≡ slice_index levels w = ap (slice_index levels) h.3 in
      omega (arith, h.1)

  -- one more arc is put in
  pub put_more : (arcs : List InArc) (a : InArc) (ups downs new_ups new_downs : List (List Leg)) → a.from < g.nodes → a.to < g.nodes →
      a.weight ≤ MOST_WEIGHT → AreOfArcs g.nodes order rows arcs ups downs → IsPut levels a ups downs new_ups new_downs →
      AreOfArcs g.nodes order rows (arcs ++ a ∷ []) new_ups new_downs
  put_more arcs a ups downs new_ups new_downs from to light are put = elim put [
    | inl up ↦ (
      lightened_metric g.nodes order rows (λ u w. least_weight u w arcs)
          (λ u w. least_weight u w (arcs ++ a ∷ [])) ups are.0 a.from a.to a.weight new_ups (let size = are.0.size in
          omega arith) light up.1 (push_here arcs a) (λ u w ne. push_other u w arcs a ne),
      subst (IsMetric g.nodes order rows (λ i. turned_legs (legs_of (arcs ++ a ∷ [])))) (sym up.2)
          (same_metric g.nodes order rows (λ u w. least_weight w u arcs) (λ u w. least_weight w u (arcs ++ a ∷ [])) downs are.1
          (λ i w lt c. push_other w (slice_index order i) arcs a (λ x y.
          let less = rising i w lt c in let p : slice_index levels w ≡ slice_index levels a.from = ap (slice_index levels) x in
          let q : slice_index levels (slice_index order i) ≡ slice_index levels a.to = ap (slice_index levels) y in
          omega (arith, up.0)))),
    )
    | inr down ↦ (
      subst (IsMetric g.nodes order rows (λ i. legs_of (arcs ++ a ∷ []))) (sym down.1)
          (same_metric g.nodes order rows (λ u w. least_weight u w arcs) (λ u w. least_weight u w (arcs ++ a ∷ [])) ups are.0
          (λ i w lt c. push_other (slice_index order i) w arcs a (λ x y.
          let less = rising i w lt c in let p : slice_index levels w ≡ slice_index levels a.to = ap (slice_index levels) y in
          let q : slice_index levels (slice_index order i) ≡ slice_index levels a.from = ap (slice_index levels) x in
          omega (arith, down.0)))),
      lightened_metric g.nodes order rows (λ u w. least_weight w u arcs)
          (λ u w. least_weight w u (arcs ++ a ∷ [])) downs are.1 a.to a.from a.weight new_downs (let size = are.1.size in
          omega arith) light down.2 (push_here arcs a) (λ u w ne. push_other w u arcs a (λ x y. ne y x)),
    )
  ]

  -- the empty rows of a topology
  open_row : (i : ℕ) → i < g.nodes →
      row (map (λ r. map no_leg r) rows) (slice_index order i) ≡ map no_leg (slice_index_or rows (slice_index order i) [])
  open_row i lt =
      let is = is_order in
      let count = is.count in
      let size = ready.size in
      let within = is.within i (omega arith) in
      get_or-map (λ r. map no_leg r) rows (slice_index order i) [] [] (omega arith)

  empty_row : (f : ℕ → Option Label) (nodes : List ℕ) → ((w : ℕ) → f w ≡ None) → HasLegs f nodes (map no_leg nodes)
  empty_row f nodes none = record {
    ends = map-map node_of no_leg nodes ∙ same nodes;
    each = λ l c. let m = contains_map_of no_leg nodes l c in ap held_leg (sym m.2) ∙ sym (none l.node);
    held = λ k d lt.
        let size = length-map nodes no_leg in
        let below : k < length nodes = omega arith in
        subst IsHeld (sym (get_or-map no_leg nodes k 0 d below)) (grind arith, grind arith);
  }
    where
      same : (xs : List ℕ) → map (λ x. x) xs ≡ xs
      same [] = refl
      same (x ∷ xs) = ap (λ z. x ∷ z) (same xs)

  -- before the first arc
  pub put_none : AreOfArcs g.nodes order rows [] (map (λ r. map no_leg r) rows) (map (λ r. map no_leg r) rows)
  put_none = (
    record {
      size = length-map rows (λ r. map no_leg r) ∙ ready.size;
      each =
          λ i lt. subst (HasLegs (λ w. legs_of [] (slice_index order i) w) (slice_index_or rows (slice_index order i) []))
          (sym (open_row i lt)) (empty_row _ _ (λ w. refl));
    },
    record {
      size = length-map rows (λ r. map no_leg r) ∙ ready.size;
      each =
          λ i lt. subst (HasLegs (λ w. legs_of [] w (slice_index order i)) (slice_index_or rows (slice_index order i) []))
          (sym (open_row i lt)) (empty_row _ _ (λ w. refl));
    },
  )

  -- the same for the arrays before the first arc of a list
  pub put_start : (ups downs : List (List Leg)) → ups ≡ map (λ r. map no_leg r) rows → downs ≡ map (λ r. map no_leg r) rows →
      AreOfArcs g.nodes order rows [] ups downs
  put_start ups downs eu ed = (
    subst (IsMetric g.nodes order rows (λ i. legs_of [])) (sym eu) put_none.0,
    subst (IsMetric g.nodes order rows (λ i. turned_legs (legs_of []))) (sym ed) put_none.1,
  )

  -- the next arc of the graph is put in
  pub put_next : (arcs : List InArc) (k : ℕ) (d : InArc) (ups downs new_ups new_downs : List (List Leg)) → arcs ≡ g.arcs →
      k < length arcs → AreOfArcs g.nodes order rows (take k g.arcs) ups downs →
      IsPut levels (get_or arcs k d) ups downs new_ups new_downs → AreOfArcs g.nodes order rows (take (k + 1) g.arcs) new_ups new_downs
  put_next arcs k d ups downs new_ups new_downs same lt are put =
      let inside : k < length g.arcs = subst (λ z. k < length z) same lt in
      let is = limits.each k d inside in
      let put_it = subst (λ z. IsPut levels (get_or z k d) ups downs new_ups new_downs) same put in
      subst (λ z. AreOfArcs g.nodes order rows z new_ups new_downs) (sym (take_more g.arcs k d inside))
      (put_more (take k g.arcs) (get_or g.arcs k d) ups downs new_ups new_downs is.ends.0 is.ends.1
      (light g.nodes (get_or g.arcs k d).weight (get_or g.arcs k d).from is.ends.0 is.weight) are put_it)
    where
      light : (n w u : ℕ) → u < n → n * w ≤ MOST_WEIGHT → w ≤ MOST_WEIGHT
      light n w u lt le = grind arith

  -- the opening legs between different nodes
  opened : (u w : ℕ) → u ≢ w → legs_of g.arcs u w ≡ opening g u w
  opened u w ne = at (u == w) refl
    where
      at : (b : Bool) → (u == w) ≡ b → arc_label_of (least_weight u w g.arcs) ≡ cond b None (arc_label_of (least_weight u w g.arcs))
      at true e = absurd (ne (eqb-true u w e))
      at false e = refl

  -- the arrays when all arcs are put in
  pub put_last : (k : ℕ) (ups downs : List (List Leg)) → length g.arcs ≤ k → AreOfArcs g.nodes order rows (take k g.arcs) ups downs →
      AreOfArcs g.nodes order rows g.arcs ups downs
  put_last k ups downs past are = subst (λ z. AreOfArcs g.nodes order rows z ups downs) (take_all k g.arcs past) are

  -- the arrays before the first step, when all arcs are put in
  pub all_put : (ups downs : List (List Leg)) → AreOfArcs g.nodes order rows g.arcs ups downs → AreMetricsAt g order rows 0 ups downs
  all_put ups downs are = (
    record {
      size = are.0.size;
      each = λ i lt. let has = are.0.each i lt in let e : 0 ≡ min i 0 = omega arith in
          subst (λ z. HasLegs (legs_after g order z (slice_index order i)) (slice_index_or rows (slice_index order i) [])
          (row ups (slice_index order i))) e (record {
            ends = has.ends;
            each = λ l c. has.each l c
                ∙ opened (slice_index order i) l.node
                (apart i l.node lt (subst (λ (z : List ℕ). Contains z l.node) has.ends
                (contains_map node_of (row ups (slice_index order i)) l c)));
            held = has.held;
          });
    },
    record {
      size = are.1.size;
      each = λ i lt. let has = are.1.each i lt in let e : 0 ≡ min i 0 = omega arith in
          subst (λ z. HasLegs (λ w. legs_after g order z w (slice_index order i)) (slice_index_or rows (slice_index order i) [])
          (row downs (slice_index order i))) e (record {
            ends = has.ends;
            each = λ l c. has.each l c
                ∙ opened l.node (slice_index order i)
                (λ same. apart i l.node lt
                (subst (λ (z : List ℕ). Contains z l.node) has.ends (contains_map node_of (row downs (slice_index order i)) l c))
                (sym same));
            held = has.held;
          });
    },
  )
    where
      apart : (i w : ℕ) → i < g.nodes → Contains (slice_index_or rows (slice_index order i) []) w → slice_index order i ≢ w
      apart i w lt c same = let less = rising i w lt c in let e : slice_index levels (slice_index order i) ≡ slice_index levels w =
          ap (slice_index levels) same in omega arith
