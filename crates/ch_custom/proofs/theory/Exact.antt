-- Rows whose legs are exact, from the last node of the order back to the first.
use Rattle.std.proofs.Common.{◌≡◌, ℕ, ◌+◌, ◌<◌, List, [], length, get_or, set, Contains, Some, sym, ◌∙◌, ap, subst}
use Rattle.std.proofs.Common.{arith, inl, inr, length-set, get_or-set_same, get_or-set_other}
use Rattle.std.specs.Prelude.{◌≢◌, All, filter, map, min, slice_index, slice_index_or}
use Rattle.std.proofs.lemmas.Bool.{cases_eq, cases_lt}
use Rattle.std.proofs.lemmas.List.{get_or-map, length-map, get_or_default, ext_get_or}
use Rattle.std.proofs.lemmas.Simd.{map-map}
use Rattle.std.proofs.lemmas.List.Elements.{Contains-get_or}
use Rattle.ch_graph.specs.declared.cost.Cost.{Cost}
use Rattle.ch_graph.specs.Cost.{cost_sum}
use Rattle.ch_graph.specs.Graph.{Network, IsWithinLimits}
use Rattle.ch_graph.proofs.CostSums.{cost_sum_comm}
use Rattle.ch_graph.proofs.Lists.{contains_map, contains_map_of, contains_filter_of}
use Rattle.ch_hierarchy.specs.declared.leg.Leg.{Leg}
use Rattle.ch_hierarchy.specs.declared.side.Side.{Side}
use Rattle.ch_hierarchy.specs.declared.side.Side.TheVariants.{Up, Down}
use Rattle.ch_hierarchy.specs.Side.{other}
use Rattle.ch_hierarchy.specs.Hierarchy.{LevelsAndLegs}
use Rattle.ch_hierarchy.specs.Kept.{IsKept}
use Rattle.ch_hierarchy.specs.Rows.{row}
use Rattle.ch_hierarchy.specs.Saved.{AreLevelsOf}
use Rattle.ch_hierarchy.proofs.theory.LegWalks.{up_walk, down_walk}
use Rattle.ch_contract.specs.Built.{IsHierarchyIn}
use Rattle.ch_contract.specs.Legs.{Label}
use Rattle.ch_contract.proofs.theory.RowLegs.{row_has, row_member, leg_at as made_leg}
use Rattle.ch_custom.specs.declared.leg_pair.LegPair.{LegPair}
use Rattle.ch_custom.specs.LegPairs.{leg_of, no_pair, row_of, rows_at, pairs_row}
use Rattle.ch_custom.specs.Metric.{IsHeld}
use Rattle.ch_custom.specs.Opening.{is_live}
use Rattle.ch_custom.specs.Customizing.{Lowers}
use Rattle.ch_custom.specs.Pruning.{LeastWalksTakeLegs}
use Rattle.ch_custom.specs.Exact.{IsWalkAt, IsLeastAt, IsShortened, held, pair_at, IsSoundRow, AreShortenedOver, CanBeShortened, taken_leg}
use Rattle.ch_custom.specs.Exact.{IsByTakenLeg, AreTakenLegs, IsShortenedRow, IsExactRow, AreExactFrom}
use Rattle.ch_custom.specs.Topologies.{HasLegs, legs_after, AreFor, AreMetricsAt}
use Rattle.ch_custom.proofs.theory.Closed.{within, closed_hierarchy, row_up, hierarchy_in, is_kept}
use Rattle.ch_custom.proofs.theory.ExactLegs.{least_turned, least_front, least_walk, least_unique, stays, again, still_sound}
use Rattle.ch_custom.proofs.theory.ExactRows.{node_in}
use Rattle.ch_custom.proofs.theory.LegPairs.{row_at, rows_size}
use Rattle.ch_custom.proofs.theory.LoweredPairs.{held_here}
use Rattle.ch_custom.proofs.theory.Pruned.{kept_hierarchies_take_legs}
use Rattle.ch_custom.proofs.theory.Relaxing.{node_of}
use Rattle.ch_custom.proofs.theory.Steps.{nodes, higher, single}

-- a row has a place for each of its nodes
pub place_in : (row : List LegPair) (x : ℕ) → Contains (map node_in row) x →
    (k : ℕ) × (k < length row) × ((d : LegPair) → (pair_at row k d).node ≡ x)
place_in row x c =
    let m = contains_map_of node_in row x c in
    let k = m.1.0 in
    let lt = m.1.1 in
    let is = m.1.2 in
    (k, lt, λ d. ap node_in (get_or_default row k d m.0 lt ∙ is) ∙ m.2)

module _ (g : Network) (order : List ℕ) (rows : List (List ℕ)) (limits : IsWithinLimits g) (ready : AreFor g order rows) where
  abbrev v : ℕ → ℕ
  v i = slice_index order i

  abbrev ends : ℕ → List ℕ
  ends i = slice_index_or rows (v i) []

  -- the node of a place is one of the graph
  pub its_node : (i : ℕ) → i < g.nodes → v i < g.nodes
  its_node i lt = let is = nodes g order rows limits ready in let count = is.count in is.within i (omega arith)

  -- there are as many places as nodes
  pub place_below : (i : ℕ) → i < length order → i < g.nodes
  place_below i lt = let count = (nodes g order rows limits ready).count in omega arith

  module _ (i : ℕ) (lt : i < g.nodes) (row : List LegPair) (same : map (λ p. p.node) row ≡ ends i) where
    -- the nodes of a row
    pub end_at : (k : ℕ) (d : LegPair) → k < length row → get_or (ends i) k 0 ≡ (pair_at row k d).node
    end_at k d below = ap (λ (z : List ℕ). get_or z k 0) (sym same) ∙ get_or-map node_in row k d 0 below

    pub is_end : (k : ℕ) (d : LegPair) → k < length row → Contains (ends i) (pair_at row k d).node
    is_end k d below = subst (λ (z : List ℕ). Contains z (pair_at row k d).node) same
        (contains_map node_in row (pair_at row k d) (Contains-get_or row k d below))

    -- they are at later places
    pub later_end : (k : ℕ) (d : LegPair) → k < length row → (j : ℕ) × (i < j) × (j < g.nodes) × (v j ≡ (pair_at row k d).node)
    later_end k d below = higher g order rows limits ready i (pair_at row k d).node lt (is_end k d below)

  module _ (legs : AreTakenLegs g order rows) where
    -- a row of shortened legs is sound
    pub sound_row : (i : ℕ) (row : List LegPair) → i < g.nodes → IsShortenedRow g order rows i row → IsSoundRow g (v i) row
    sound_row i row lt is = record {
      sorted = λ k j d e less below.
          let size : length row ≡ length (ends i) = sym (length-map row node_in) ∙ ap length is.ends in
          let one = end_at i lt row is.ends k d (omega arith) in
          let two = end_at i lt row is.ends j e below in
          let rise : get_or (ends i) k 0 < get_or (ends i) j 0 = ready.sound.ordered (v i) k j 0 less (omega arith) in
          omega arith;
      held = is.held;
      walks = λ side k d below. still_sound g side (v i) (pair_at row k d).node (taken_leg g order side i (pair_at row k d).node)
          (held side (pair_at row k d)) (is.each side k d below) (legs.walks side i (pair_at row k d).node lt);
      apart = λ k d below e.
          let j = later_end i lt row is.ends k d below in
          let one = single g order rows limits ready j.0 i j.2 lt (j.3 ∙ e) in
          omega (arith, j.1);
      within = λ k d below.
          let j = later_end i lt row is.ends k d below in
          subst (λ z. z < g.nodes) j.3 (its_node j.0 j.2);
    }

    module _ (k : ℕ) (lt : k < g.nodes) (metric : List (List LegPair)) (are : AreExactFrom g order rows (k + 1) metric) where
      abbrev old : List LegPair
      old = pairs_row metric (v k)

      -- the row of the next node can be shortened
      pub can_be : CanBeShortened g (v k) metric old
      can_be = record {
        node = its_node k lt;
        sound = sound_row k old lt (are.each k lt);
        others = λ a d below.
            let j = later_end k lt old (are.each k lt).ends a d below in
            let inside = its_node j.0 j.2 in (
              subst (λ z. z < length metric) j.3 (subst (λ z. v j.0 < z) (sym are.size) inside),
              subst (λ z. IsSoundRow g z (pairs_row metric z)) j.3 (sound_row j.0 (pairs_row metric (v j.0)) j.2 (are.each j.0 j.2)),
            );
      }

      module _ (new : List LegPair) (over : AreShortenedOver g (v k) metric (length old) old new) where
        -- its legs are shortened
        pub short_row : IsShortenedRow g order rows k new
        short_row = record {
          ends = ext_get_or 0 (map node_in new) (map node_in old) (length-map new node_in ∙ over.short.size
              ∙ sym (length-map old node_in)) (λ a below.
              let here : a < length new = subst (λ z. a < z) (length-map new node_in) below in
              let there : a < length old = omega (arith, over.short.size) in
              get_or-map node_in new a (no_pair 0) 0 here ∙ over.short.nodes a (no_pair 0) there
              ∙ sym (get_or-map node_in old a (no_pair 0) 0 there))
              ∙ (are.each k lt).ends;
          each = λ side a d below.
              let there : a < length old = omega (arith, over.short.size) in
              subst (λ z. IsShortened g side (v k) z (taken_leg g order side k z) (held side (pair_at new a d)))
              (sym (over.short.nodes a d there))
              (again g side (v k) (pair_at old a d).node (taken_leg g order side k (pair_at old a d).node) (held side (pair_at old a d))
              (held side (pair_at new a d)) ((are.each k lt).each side a d there) (over.short.each side a d there));
          held = over.short.held;
        }

        module _ (side : Side) (j : ℕ) (d : LegPair) (below : j < length old) (c : Cost)
            (least : IsLeastAt g side (v k) (pair_at old j d).node c) where
          abbrev x : ℕ
          x = (pair_at old j d).node

          -- the place of the node, and the leg by which a least walk goes
          at : (q : ℕ) × (k < q) × (q < g.nodes) × (v q ≡ x)
          at = later_end k lt old (are.each k lt).ends j d below

          by : IsByTakenLeg g order rows side k (v at.0) c
          by = legs.first side k at.0 c at.1 at.2 (subst (λ z. IsLeastAt g side (v k) z c) (sym at.3) least)

          abbrev y : ℕ
          y = by.node

          on : IsLeastAt g side y x by.rest
          on = subst (λ z. IsLeastAt g side y z by.rest) at.3 by.onward

          whole : IsLeastAt g side (v k) x (cost_sum by.leg.cost by.rest)
          whole = subst (IsLeastAt g side (v k) x) by.sum least

          -- the leg has the least cost, so it is still there
          leg_least : IsLeastAt g side (v k) y by.leg.cost
          leg_least = least_front g side (v k) y x by.leg.cost by.rest whole (legs.walks side k y lt by.leg by.is)
              (least_walk g side y x by.rest on)

          leg_held : (a : ℕ) → a < length old → (pair_at old a d).node ≡ y → held side (pair_at old a d) ≡ Some by.leg
          leg_held a inside its =
              stays g side (v k) y (taken_leg g order side k y) (held side (pair_at old a d))
              (subst (λ z. IsShortened g side (v k) z (taken_leg g order side k z) (held side (pair_at old a d))) its
              ((are.each k lt).each side a d inside)) by.leg by.is leg_least

          abbrev Result : Type 0
          Result = (l : Label) × (held side (pair_at new j d) ≡ Some l) × (l.cost ≡ c)

          -- it leads there
          direct : x ≡ y → Result
          direct same =
              let there = leg_held j below same in
              let mine = subst (λ z. IsLeastAt g side (v k) z by.leg.cost) (sym same) leg_least in (
                by.leg,
                stays g side (v k) x (held side (pair_at old j d)) (held side (pair_at new j d)) (over.short.each side j d below) by.leg
                    there mine,
                least_unique g side (v k) x by.leg.cost c mine least,
              )

          -- it leads to an earlier or to a later place
          module _ (a : ℕ) (inside : a < length old) (its : (pair_at old a d).node ≡ y) (p : ℕ) (later : k < p) (in_graph : p < g.nodes)
              (is_y : v p ≡ y) where
            pair_y : Contains (ends k) (v p)
            pair_y = subst (Contains (ends k)) (sym is_y) by.inside

            pair_x : Contains (ends k) (v at.0)
            pair_x = subst (Contains (ends k)) (sym at.3) (is_end k lt old (are.each k lt).ends j d below)

            earlier : p < at.0 → Result
            earlier less =
                let has = ready.topology.closed k p at.0 later less at.2 pair_y pair_x in
                let b = place_in (pairs_row metric (v p)) (v at.0)
                (subst (λ (z : List ℕ). Contains z (v at.0)) (sym (are.each p in_graph).ends) has) in
                let m = are.exact p (omega arith) in_graph side b.0 d b.1 by.rest
                (subst (λ z. IsLeastAt g side (v p) z by.rest) (sym (b.2 d ∙ at.3))
                (subst (λ z. IsLeastAt g side z x by.rest) (sym is_y) on)) in
                let mine : v p ≡ (pair_at old a d).node = is_y ∙ sym its in
                let row_is : pairs_row metric (v p) ≡ pairs_row metric (pair_at old a d).node = ap (pairs_row metric) mine in
                let r = (over.over a b.0 j d inside inside (subst (λ (z : List LegPair). b.0 < length z) row_is b.1) below
                (sym at.3 ∙ sym (b.2 d) ∙ ap (λ (z : List LegPair). (pair_at z b.0 d).node) row_is)
                side).0 by.leg m.0 (leg_held a inside its)
                (ap (λ (z : List LegPair). held side (pair_at z b.0 d)) (sym row_is) ∙ m.1)
                (subst (λ z. IsLeastAt g side (v k) x (cost_sum by.leg.cost z)) (sym m.2) whole) in
                (r.0, r.1, r.2 ∙ ap (cost_sum by.leg.cost) m.2 ∙ sym by.sum)

            after : at.0 < p → Result
            after less =
                let has = ready.topology.closed k at.0 p at.1 less in_graph pair_x pair_y in
                let b = place_in (pairs_row metric (v at.0)) (v p)
                (subst (λ (z : List ℕ). Contains z (v p)) (sym (are.each at.0 at.2).ends) has) in
                let turned = least_turned g side y x by.rest on in
                let m = are.exact at.0 (omega (arith, at.1)) at.2 (other side) b.0 d b.1 by.rest
                (subst (λ z. IsLeastAt g (other side) (v at.0) z by.rest) (sym (b.2 d ∙ is_y))
                (subst (λ z. IsLeastAt g (other side) z y by.rest) (sym at.3) turned)) in
                let row_is : pairs_row metric (v at.0) ≡ pairs_row metric x = ap (pairs_row metric) at.3 in
                let r = (over.over j b.0 a d below below (subst (λ (z : List LegPair). b.0 < length z) row_is b.1) inside
                (its ∙ sym is_y ∙ sym (b.2 d) ∙ ap (λ (z : List LegPair). (pair_at z b.0 d).node) row_is)
                side).1 by.leg m.0 (leg_held a inside its)
                (ap (λ (z : List LegPair). held (other side) (pair_at z b.0 d)) (sym row_is) ∙ m.1)
                (subst (λ z. IsLeastAt g side (v k) x (cost_sum by.leg.cost z)) (sym m.2) whole) in
                (r.0, r.1, r.2 ∙ ap (cost_sum by.leg.cost) m.2 ∙ sym by.sum)

          exact_leg : Result
          exact_leg =
              let a = place_in old y (subst (λ (z : List ℕ). Contains z y) (sym (are.each k lt).ends) by.inside) in
              let p = higher g order rows limits ready k y lt by.inside in
              elim (cases_lt p.0 at.0) [
                | inl less ↦ earlier a.0 a.1 (a.2 d) p.0 p.1 p.2 p.3 less
                | inr past ↦ elim (cases_eq p.0 at.0) [
                  | inl same ↦ direct (sym at.3 ∙ ap v (sym same) ∙ p.3)
                  | inr ne ↦ after a.0 a.1 (a.2 d) p.0 p.1 p.2 p.3 (omega arith)
                ]
              ]

        -- its legs are exact
        pub exact_row : IsExactRow g order k new
        exact_row side j d below c least =
            let there : j < length old = omega (arith, over.short.size) in
            exact_leg side j d there c (subst (λ z. IsLeastAt g side (v k) z c) (over.short.nodes j d there) least)

  -- the rows after the next is written
  pub exact_put : (k : ℕ) (metric after : List (List LegPair)) (new : List LegPair) → k < g.nodes →
      AreExactFrom g order rows (k + 1) metric → IsShortenedRow g order rows k new → IsExactRow g order k new →
      after ≡ set metric (v k) new → AreExactFrom g order rows k after
  exact_put k metric after new lt are short exact is = record {
    size = ap length is ∙ length-set metric (v k) new ∙ are.size;
    each = λ i below. elim (cases_eq i k) [
      | inl same ↦
          subst (λ z. IsShortenedRow g order rows z (pairs_row after (v z))) (sym same)
          (subst (IsShortenedRow g order rows k) (sym here) short)
      | inr ne ↦ subst (IsShortenedRow g order rows i) (sym (there i below ne)) (are.each i below)
    ];
    exact = λ i past below. elim (cases_eq i k) [
      | inl same ↦
          subst (λ z. IsExactRow g order z (pairs_row after (v z))) (sym same)
          (subst (IsExactRow g order k) (sym here) exact)
      | inr ne ↦ subst (IsExactRow g order i) (sym (there i below ne)) (are.exact i (omega arith) below)
    ];
  }
    where
      here : pairs_row after (v k) ≡ new
      here = ap (λ z. get_or z (v k) []) is ∙ get_or-set_same metric (v k) new [] (subst (λ z. v k < z) (sym are.size) (its_node k lt))

      there : (i : ℕ) → i < g.nodes → i ≢ k → pairs_row after (v i) ≡ pairs_row metric (v i)
      there i below ne = ap (λ z. get_or z (v i) []) is
          ∙ get_or-set_other metric (v k) (v i) new [] (λ e. ne (single g order rows limits ready i k below lt e))

module _ (g : Network) (order levels : List ℕ) (rows : List (List ℕ)) (limits : IsWithinLimits g) (ready : AreFor g order rows)
    (levelled_by : AreLevelsOf order levels) (metric : List (List LegPair))
    (are : AreMetricsAt g order rows g.nodes (rows_at Up metric) (rows_at Down metric)) where
  -- the legs of a node are those that it has when it is taken
  has_up : (i : ℕ) → i < g.nodes → HasLegs (legs_after g order i (slice_index order i)) (slice_index_or rows (slice_index order i) [])
      (row_of Up (pairs_row metric (slice_index order i)))
  has_up i lt =
      let e : min i g.nodes ≡ i = omega arith in
      subst (HasLegs (legs_after g order i (slice_index order i)) (slice_index_or rows (slice_index order i) []))
      (row_at Up metric (slice_index order i) (inside i lt))
      (subst (λ z. HasLegs (legs_after g order z (slice_index order i)) (slice_index_or rows (slice_index order i) [])
      (row (rows_at Up metric) (slice_index order i))) e (are.0.each i lt))
    where
      inside : (i : ℕ) → i < g.nodes → slice_index order i < length metric
      inside i lt = let node = its_node g order rows limits ready i lt in let size = are.0.size in let same = rows_size Up metric in
          omega arith

  has_down : (i : ℕ) → i < g.nodes → HasLegs (λ x. legs_after g order i x (slice_index order i))
      (slice_index_or rows (slice_index order i) []) (row_of Down (pairs_row metric (slice_index order i)))
  has_down i lt =
      let e : min i g.nodes ≡ i = omega arith in
      subst (HasLegs (λ x. legs_after g order i x (slice_index order i)) (slice_index_or rows (slice_index order i) []))
      (row_at Down metric (slice_index order i) (inside i lt))
      (subst (λ z. HasLegs (λ x. legs_after g order z x (slice_index order i)) (slice_index_or rows (slice_index order i) [])
      (row (rows_at Down metric) (slice_index order i))) e (are.1.each i lt))
    where
      inside : (i : ℕ) → i < g.nodes → slice_index order i < length metric
      inside i lt = let node = its_node g order rows limits ready i lt in let size = are.1.size in let same = rows_size Down metric in
          omega arith

  -- before the first step from the last node back
  pub exact_start : AreExactFrom g order rows (length order) metric
  exact_start = record {
    size = sym (rows_size Up metric) ∙ are.0.size;
    each = λ i lt. record {
      ends = sym (map-map node_of (leg_of Up) (pairs_row metric (slice_index order i))) ∙ (has_up i lt).ends;
      each = λ side k d below. inl (its side i k d lt below);
      held = λ k d below. held_here (pairs_row metric (slice_index order i)) k d (all i lt) below;
    };
    exact = λ i past lt. let count = (nodes g order rows limits ready).count in absurd (omega arith);
  }
    where
      its : (side : Side) (i k : ℕ) (d : LegPair) → i < g.nodes → k < length (pairs_row metric (slice_index order i)) →
          held side (pair_at (pairs_row metric (slice_index order i)) k d)
          ≡ taken_leg g order side i (pair_at (pairs_row metric (slice_index order i)) k d).node
      its Up i k d lt below = (has_up i lt).each (leg_of Up (pair_at (pairs_row metric (slice_index order i)) k d))
          (contains_map (leg_of Up) (pairs_row metric (slice_index order i)) (pair_at (pairs_row metric (slice_index order i)) k d)
          (Contains-get_or (pairs_row metric (slice_index order i)) k d below))
      its Down i k d lt below = (has_down i lt).each (leg_of Down (pair_at (pairs_row metric (slice_index order i)) k d))
          (contains_map (leg_of Down) (pairs_row metric (slice_index order i)) (pair_at (pairs_row metric (slice_index order i)) k d)
          (Contains-get_or (pairs_row metric (slice_index order i)) k d below))

      all : (i : ℕ) → i < g.nodes → (side : Side) → All IsHeld (row_of side (pairs_row metric (slice_index order i)))
      all i lt Up = (has_up i lt).held
      all i lt Down = (has_down i lt).held

  -- the hierarchy of these legs
  abbrev H : LevelsAndLegs
  H = closed_hierarchy g order levels rows limits ready levelled_by (rows_at Up metric) (rows_at Down metric) are

  its : IsHierarchyIn (Lowers g.nodes) g H order (legs_after g order)
  its = hierarchy_in g order levels rows limits ready levelled_by (rows_at Up metric) (rows_at Down metric) are

  kept : IsKept g H
  kept = is_kept g order levels rows limits ready levelled_by (rows_at Up metric) (rows_at Down metric) are

  taking : LeastWalksTakeLegs g H
  taking = kept_hierarchies_take_legs g H limits kept

  walks : (side : Side) (i x : ℕ) → i < g.nodes → (l : Label) → taken_leg g order side i x ≡ Some l →
      IsWalkAt g side (slice_index order i) x l.cost
  walks Up i x lt l is =
      let h = its.up i lt in
      up_walk g H kept (slice_index order i) (made_leg x l) (row_member (row H.up (slice_index order i)) x l (h.1 x ∙ is))
  walks Down i x lt l is =
      let h = its.down i lt in
      down_walk g H kept (slice_index order i) (made_leg x l) (row_member (row H.down (slice_index order i)) x l (h.1 x ∙ is))

  middles : (side : Side) (i x m : ℕ) (l : Label) → i < g.nodes → taken_leg g order side i x ≡ Some l → l.middle ≡ Some m → m < g.nodes
  middles Up i x m l lt is e =
      (within g order levels rows limits ready levelled_by (rows_at Up metric) (rows_at Down metric) are i (omega arith)
      (slice_index order i) x l is).middle m e
  middles Down i x m l lt is e =
      (within g order levels rows limits ready levelled_by (rows_at Up metric) (rows_at Down metric) are i (omega arith)
      x (slice_index order i) l is).middle m e

  higher_place : (i j : ℕ) → i < j → j < g.nodes → slice_index levels (slice_index order i) < slice_index levels (slice_index order j)
  higher_place i j less lt =
      let count = (nodes g order rows limits ready).count in
      let one = levelled_by.each i (omega arith) in
      let two = levelled_by.each j (omega arith) in
      omega arith

  -- a leg of a row of the hierarchy is to a node of the row of the topology
  end_of : (rows_now : List (List Leg)) (i : ℕ) (l : Leg) → length rows_now ≡ g.nodes → i < g.nodes →
      map (λ q. q.node) (row rows_now (slice_index order i)) ≡ slice_index_or rows (slice_index order i) [] →
      Contains (row (map (λ r. filter is_live r) rows_now) (slice_index order i)) l →
      Contains (slice_index_or rows (slice_index order i) []) l.node
  end_of rows_now i l size lt same has =
      let live = contains_filter_of is_live (row rows_now (slice_index order i)) l
      (subst (λ (z : List Leg). Contains z l)
      (row_up g order levels rows limits ready levelled_by (rows_at Up metric) (rows_at Down metric) are rows_now size i lt) has) in
      subst (λ (z : List ℕ). Contains z l.node) same (contains_map node_of (row rows_now (slice_index order i)) l live.0)

  first : (side : Side) (i j : ℕ) (c : Cost) → i < j → j < g.nodes → IsLeastAt g side (slice_index order i) (slice_index order j) c →
      IsByTakenLeg g order rows side i (slice_index order j) c
  first Up i j c less lt least =
      let it : i < g.nodes = omega arith in
      let h = its.up i it in
      let by = taking.up (slice_index order i) (slice_index order j) c (higher_place i j less lt) least in
      record {
        node = by.leg.node;
        inside = end_of (rows_at Up metric) i by.leg are.0.size it (are.0.each i it).ends by.first;
        leg = record { cost = by.leg.cost; middle = by.leg.middle };
        is = sym (h.1 by.leg.node) ∙ row_has (row H.up (slice_index order i)) by.leg h.0 by.first;
        rest = by.rest;
        onward = by.onward;
        sum = by.sum;
      }
  first Down i j c less lt least =
      let it : i < g.nodes = omega arith in
      let h = its.down i it in
      let by = taking.down (slice_index order i) (slice_index order j) c (higher_place i j less lt) least in
      record {
        node = by.leg.node;
        inside = end_of (rows_at Down metric) i by.leg are.1.size it (are.1.each i it).ends by.last;
        leg = record { cost = by.leg.cost; middle = by.leg.middle };
        is = sym (h.1 by.leg.node) ∙ row_has (row H.down (slice_index order i)) by.leg h.0 by.last;
        rest = by.rest;
        onward = by.before;
        sum = by.sum ∙ cost_sum_comm by.rest by.leg.cost;
      }

  -- each leg is a walk, and least walks to later nodes take legs
  pub legs_taken : AreTakenLegs g order rows
  legs_taken = record { walks = walks; middles = middles; first = first }
