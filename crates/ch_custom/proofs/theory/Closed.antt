-- The hierarchy of the arrays after the last step.
use Rattle.std.proofs.Common.{◌≡◌, ℕ, ◌+◌, ◌<◌, ◌≤◌, Bool, true, false, List, [], length, Contains, Option, Some, None, refl, sym, ◌∙◌}
use Rattle.std.proofs.Common.{ap, subst, arith, inl, inr}
use Rattle.std.specs.Prelude.{AllPairs, map, min, filter, slice_index, slice_index_or}
use Rattle.std.proofs.lemmas.Bool.{cases_eq, cases_lt}
use Rattle.std.proofs.lemmas.Option.{none-some}
use Rattle.std.proofs.lemmas.List.{get_or-map, length-map}
use Rattle.std.proofs.lemmas.List.Kept.{AllPairs-filter}
use Rattle.ch_graph.specs.Graph.{Network, IsWithinLimits}
use Rattle.ch_graph.proofs.Lists.{contains_map_of, contains_filter, contains_filter_of}
use Rattle.ch_hierarchy.specs.declared.leg.Leg.{Leg}
use Rattle.ch_hierarchy.specs.Rows.{row, IsRow}
use Rattle.ch_hierarchy.specs.Saved.{AreLevelsOf}
use Rattle.ch_hierarchy.specs.Hierarchy.{LevelsAndLegs, IsLevelled}
use Rattle.ch_hierarchy.specs.Kept.{IsKept}
use Rattle.ch_contract.specs.Legs.{Label, Legs, AreLegsWithin}
use Rattle.ch_contract.specs.LegRows.{label_of, row_leg, AreLegsFrom, AreLegsTo}
use Rattle.ch_contract.specs.Built.{IsHierarchyIn}
use Rattle.ch_contract.proofs.theory.Contracting.{ContractsWithPairs, pairs_by_needed}
use Rattle.ch_contract.proofs.theory.Enough.{hierarchy_by, hierarchy_with_enough}
use Rattle.ch_contract.proofs.theory.EnoughKept.{hierarchies_with_enough_kept}
use Rattle.ch_contract.proofs.theory.Levelled.{levelled, gone_steps}
use Rattle.ch_contract.proofs.theory.OneInTurn.{taken_at}
use Rattle.ch_contract.proofs.theory.OpeningLegs.{opening_within}
use Rattle.ch_contract.proofs.theory.RowLegs.{none_unless, row_has, row_member, leg_at as made_leg}
use Rattle.ch_custom.specs.Customizing.{Lowers}
use Rattle.ch_custom.specs.Metric.{held_leg}
use Rattle.ch_custom.specs.Topologies.{HasLegs, legs_after, AreFor, AreMetricsAt}
use Rattle.ch_custom.specs.Opening.{is_live}
use Rattle.ch_custom.specs.Pruning.{HasCustomized}
use Rattle.ch_custom.proofs.theory.Customizing.{contracting_is_lowering, lowered_are_contracted, lowered_within}
use Rattle.ch_custom.proofs.theory.Relaxing.{node_of, leg_at}
use Rattle.ch_custom.proofs.theory.Steps.{nodes, taken, in_topology, ordered_row}

-- what is held at a place with a leg
live_held : (l : Leg) → is_live l ≡ true → held_leg l ≡ Some (label_of l)
live_held l e = rw e refl

module _ (f : ℕ → Option Label) (ends : List ℕ) (legs : List Leg) (has : HasLegs f ends legs) (less : AllPairs ◌<◌ ends) (out : (x : ℕ) →
    (Contains ends x → ⊥) → f x ≡ None) where
  -- the legs of a row, without the places that have none
  abbrev pub live : List Leg
  live = filter is_live legs

  is_row : IsRow live
  is_row = AllPairs-filter (λ a b. a.node < b.node) is_live legs (ordered_row legs ends has.ends less)

  -- without a leg there is none in the row
  absent : (x : ℕ) → f x ≡ None → row_leg live x ≡ None
  absent x none = none_unless (row_leg live x) (λ l e.
      let c = contains_filter_of is_live legs (made_leg x l) (row_member live x l e) in
      none-some _ (sym none ∙ sym (has.each (made_leg x l) c.0) ∙ live_held (made_leg x l) c.1))

  -- the row has the legs that are named
  pub live_row : IsRow live × ((x : ℕ) → row_leg live x ≡ f x)
  live_row = (
    is_row,
    λ x. elim (leg_at legs x) [
      | inl m ↦ at x m.0 m.1 m.2 (is_live m.0) refl
      | inr none ↦
          let gone : f x ≡ None =
          out x (λ c. let m = contains_map_of node_of legs x (subst (λ (z : List ℕ). Contains z x) (sym has.ends) c) in
          none m.0 m.1 m.2) in
          absent x gone ∙ sym gone
    ],
  )
    where
      at : (x : ℕ) (m : Leg) → Contains legs m → m.node ≡ x → (b : Bool) → is_live m ≡ b → row_leg live x ≡ f x
      at x m c is true e =
          subst (λ z. row_leg live z ≡ f z) is
          (row_has live m is_row (contains_filter is_live legs m c e) ∙ sym (live_held m e) ∙ has.each m c)
      at x m c is false e =
          let gone : f x ≡ None = ap f (sym is) ∙ sym (has.each m c) ∙ (let h : held_leg m ≡ None = rw e refl in h) in
          absent x gone ∙ sym gone

module _ (g : Network) (order levels : List ℕ) (rows : List (List ℕ)) (limits : IsWithinLimits g) (ready : AreFor g order rows)
    (levelled_by : AreLevelsOf order levels) (ups downs : List (List Leg)) (are : AreMetricsAt g order rows g.nodes ups downs) where
  abbrev L : ℕ → Legs
  L = legs_after g order

  abbrev v : ℕ → ℕ
  v i = slice_index order i

  -- the legs are within the limits
  pub within : (k : ℕ) → k ≤ g.nodes → AreLegsWithin g.nodes (L k)
  within = lowered_within g.nodes g.nodes order L (opening_within g limits) (λ i lt. (taken g order rows limits ready).step i lt)

  -- each step is a contraction
  pairs : (k : ℕ) → k < g.nodes → ContractsWithPairs g.nodes (L k) (v k) (L (k + 1))
  pairs k lt = pairs_by_needed g.nodes 1 _ _ _
      ((contracting_is_lowering g.nodes (L k) (v k) (L (k + 1)) (within k (omega arith))).1 ((taken g order rows limits ready).step k lt))

  -- no leg leads between the node of a place and a node that is not in its row
  none_there : (i x : ℕ) → i < g.nodes → (Contains (slice_index_or rows (v i) []) x → ⊥) → (L i (v i) x ≡ None) × (L i x (v i) ≡ None)
  none_there i x lt not = elim (cases_lt x g.nodes) [
    | inl small ↦
        let at = taken_at g.nodes order x (taken g order rows limits ready).nodes small in
        elim (cases_lt i at.0) [
          | inl later ↦
              let stays = in_topology g order rows limits ready i (omega arith) i at.0 later at.1 in
              let is = at.2 in (
                none_unless (L i (v i) x)
                    (λ l e. not (subst (Contains (slice_index_or rows (v i) [])) is (stays.0 (rw (ap (L i (v i)) is ∙ e) refl)))),
                none_unless (L i x (v i))
                    (λ l e. not (subst (Contains (slice_index_or rows (v i) [])) is (stays.1 (rw (ap (λ z. L i z (v i)) is ∙ e) refl)))),
              )
          | inr le ↦ elim (cases_eq at.0 i) [
            | inl same ↦
                let own : v i ≡ x = ap v (sym same) ∙ at.2 in (
                  none_unless (L i (v i) x) (λ l e. (within i (omega arith) (v i) x l e).ends.2 own),
                  none_unless (L i x (v i)) (λ l e. (within i (omega arith) x (v i) l e).ends.2 (sym own)),
                )
            | inr ne ↦
                let gone = gone_steps g.nodes g.nodes order L pairs at.0 i (omega arith) (omega arith) (v i) in
                (ap (L i (v i)) (sym at.2) ∙ gone.1, ap (λ z. L i z (v i)) (sym at.2) ∙ gone.0)
          ]
        ]
    | inr past ↦ (
      none_unless (L i (v i) x) (λ l e. let q = (within i (omega arith) (v i) x l e).ends.1 in omega arith),
      none_unless (L i x (v i)) (λ l e. let q = (within i (omega arith) x (v i) l e).ends.0 in omega arith),
    )
  ]

  -- the hierarchy of the arrays
  abbrev pub closed_hierarchy : LevelsAndLegs
  closed_hierarchy = record { level = levels; up = map (λ r. filter is_live r) ups; down = map (λ r. filter is_live r) downs }

  pub row_up : (metric : List (List Leg)) → length metric ≡ g.nodes → (i : ℕ) → i < g.nodes →
      row (map (λ r. filter is_live r) metric) (v i) ≡ filter is_live (row metric (v i))
  row_up metric size i lt =
      let is = nodes g order rows limits ready in
      let count = is.count in
      let small = is.within i (omega arith) in
      get_or-map (λ r. filter is_live r) metric (v i) [] [] (omega arith)

  -- it is the hierarchy of the lowered legs
  pub hierarchy_in : IsHierarchyIn (Lowers g.nodes) g closed_hierarchy order L
  hierarchy_in = record {
    contracted = taken g order rows limits ready;
    sizes = (
      levelled_by.count ∙ (nodes g order rows limits ready).count,
      length-map ups (λ r. filter is_live r)
          ∙ are.0.size,
      length-map downs (λ r. filter is_live r) ∙ are.1.size,
    );
    level = λ i lt. let count = (nodes g order rows limits ready).count in levelled_by.each i (omega arith);
    up = λ i lt.
        let e : min i g.nodes ≡ i = omega arith in
        let has = subst (λ z. HasLegs (L z (v i)) (slice_index_or rows (v i) []) (row ups (v i))) e (are.0.each i lt) in
        subst (AreLegsFrom (L i) (v i)) (sym (row_up ups are.0.size i lt))
        (live_row (L i (v i)) _ _ has (ready.sound.ordered (v i)) (λ x not. (none_there i x lt not).0));
    down = λ i lt.
        let e : min i g.nodes ≡ i = omega arith in
        let has = subst (λ z. HasLegs (λ x. L z x (v i)) (slice_index_or rows (v i) []) (row downs (v i))) e (are.1.each i lt) in
        subst (AreLegsTo (L i) (v i)) (sym (row_up downs are.1.size i lt))
        (live_row (λ x. L i x (v i)) _ _ has (ready.sound.ordered (v i)) (λ x not. (none_there i x lt not).1));
  }

  -- it is levelled
  pub is_levelled : IsLevelled closed_hierarchy
  is_levelled =
      let size = ready.size in
      let count = ready.sound.count in
      levelled g closed_hierarchy order L
      (hierarchy_by (Lowers g.nodes) (ContractsWithPairs g.nodes) g closed_hierarchy order L hierarchy_in (λ i lt step. pairs i lt))
      limits.size.0 (opening_within g limits)

  -- it is right for the graph
  pub is_kept : IsKept g closed_hierarchy
  is_kept =
      hierarchies_with_enough_kept g 1 closed_hierarchy order L limits
      (hierarchy_with_enough g 1 closed_hierarchy order L limits (grind arith, grind arith)
      (lowered_are_contracted g order closed_hierarchy L limits hierarchy_in))

  -- so there is such a hierarchy
  pub customized : HasCustomized g order levels
  customized = record { hierarchy = closed_hierarchy; level = refl; customized = hierarchy_in; levelled = is_levelled; kept = is_kept }

  -- the same for rows that are those of the arrays
  pub levelled_rows : (up down : List (List Leg)) → up ≡ map (λ r. filter is_live r) ups → down ≡ map (λ r. filter is_live r) downs →
      IsLevelled (record { level = levels; up = up; down = down })
  levelled_rows up down eu ed =
      subst (λ z. IsLevelled (record { level = levels; up = z; down = down })) (sym eu)
      (subst (λ z. IsLevelled (record { level = levels; up = map (λ r. filter is_live r) ups; down = z })) (sym ed) is_levelled)

  pub hierarchy_rows : (up down : List (List Leg)) → up ≡ map (λ r. filter is_live r) ups → down ≡ map (λ r. filter is_live r) downs →
      IsHierarchyIn (Lowers g.nodes) g (record { level = levels; up = up; down = down }) order L
  hierarchy_rows up down eu ed = subst (λ z. IsHierarchyIn (Lowers g.nodes) g (record { level = levels; up = z; down = down }) order L)
      (sym eu) (subst (λ z. IsHierarchyIn (Lowers g.nodes) g
      (record { level = levels; up = map (λ r. filter is_live r) ups; down = z }) order L) (sym ed) hierarchy_in)

  pub kept_rows : (up down : List (List Leg)) → up ≡ map (λ r. filter is_live r) ups → down ≡ map (λ r. filter is_live r) downs →
      IsKept g (record { level = levels; up = up; down = down })
  kept_rows up down eu ed =
      subst (λ z. IsKept g (record { level = levels; up = z; down = down })) (sym eu)
      (subst (λ z. IsKept g (record { level = levels; up = map (λ r. filter is_live r) ups; down = z })) (sym ed) is_kept)
