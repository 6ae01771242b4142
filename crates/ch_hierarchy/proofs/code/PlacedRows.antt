-- Levels from an order, and rows from sorted entries, make a levelled hierarchy.
use Rattle.std.proofs.Common.{◌≡◌, ℕ, ◌<◌, ◌≤◌, Bool, true, false, cond, List, [], ◌∷◌, length, map, get_or, Contains, refl, sym}
use Rattle.std.proofs.Common.{◌∙◌, ap, subst, arith, inl, inr}
use Rattle.std.specs.Prelude.{◌==◌, All, slice_index, filter, Option}
use Rattle.std.specs.List.{range_with_len}
use Rattle.std.proofs.lemmas.List.{ext_get_or, get_or-map, length-map, get_or_default, get_or_past}
use Rattle.std.proofs.lemmas.List.Elements.{Contains-get_or}
use Rattle.std.proofs.lemmas.List.FromFn.{length-map-range_with_len, get_or-map-range_with_len}
use Rattle.std.proofs.lemmas.Bool.{cases_lt}
use Rattle.ch_graph.specs.declared.limits.TheConstants.{MOST_NODES}
use Rattle.ch_graph.specs.declared.cost.Cost.{Cost}
use Rattle.ch_graph.specs.declared.saved.SavedLeg.{SavedLeg}
use Rattle.ch_graph.specs.Rows.{values_of, AreRowsOf}
use Rattle.ch_graph.specs.Graph.{Network}
use Rattle.ch_graph.specs.Saved.{OrderAndLegs}
use Rattle.ch_graph.proofs.Lists.{contains_map}
use Rattle.ch_hierarchy.specs.declared.leg.Leg.{Leg}
use Rattle.ch_hierarchy.specs.declared.placing.Placed.{Placed}
use Rattle.ch_hierarchy.specs.Hierarchy.{LevelsAndLegs, nodes_of, IsLegUp, AreLegsUp, IsLevelled}
use Rattle.ch_hierarchy.specs.Rows.{row, IsRow}
use Rattle.ch_hierarchy.specs.Kept.{IsLeg}
use Rattle.ch_hierarchy.specs.Saved.{IsOrderOf, AreLevelsOf, NamesHierarchy, NamesFor, IsWithinBounds}
use Rattle.ch_hierarchy.specs.Sorting.{lower_of, AreSorted}
use Rattle.ch_graph.specs.Sorting.{with_key}
use Rattle.ch_hierarchy.specs.Placing.{no_saved_leg, from_of, to_of, ArePlaced, leg_of, keyed_leg}
use Rattle.ch_hierarchy.specs.Assembling.{IsSide, ArePairs}
use Rattle.ch_hierarchy.proofs.theory.SavedLevels.{sized, levels_are, one_is_higher, in_row_below}
use Rattle.ch_hierarchy.proofs.code.SortedPlaces.{sorted_rows}
use Rattle.ch_hierarchy.proofs.code.Doubled.{IsDouble, strict, twin_of_double}
use Rattle.ch_hierarchy.proofs.code.PairFaults.{pairs_once}

-- the rows of one direction
module _ (n : ℕ) (low high : SavedLeg → ℕ) (levels : List ℕ) (legs : List SavedLeg) (entries : List Placed)
    (rows : List (List Placed)) (H : LevelsAndLegs) (size : nodes_of H ≡ n) (same_levels : H.level ≡ levels)
    (placed : ArePlaced low high levels legs entries) (sorted : AreSorted n entries rows)
    (single : (v p : ℕ) → v < n → IsDouble (get_or rows v []) p → ⊥)
    (ends : (l : SavedLeg) → Contains legs l → (low l < n) × (high l < n))
    (light : (l : SavedLeg) → Contains legs l → IsWithinBounds n l) where
  abbrev made : List (List Leg)
  made = map (λ es. map (leg_of legs) es) rows

  row_is : (v : ℕ) → v < n → row made v ≡ map (leg_of legs) (get_or rows v [])
  row_is v lt = get_or-map (λ es. map (leg_of legs) es) rows v [] [] (let c = sorted.count in omega arith)

  -- the nodes rise along a row
  rises : (v : ℕ) → v < n → IsRow (map (leg_of legs) (get_or rows v []))
  rises v lt i j d less within =
      let m : length (map (leg_of legs) (get_or rows v [])) ≡ length (get_or rows v []) = length-map (get_or rows v []) (leg_of legs) in
      let e : Placed = record { lower = 0; higher = 0; place = 0 } in
      let a = ap (λ (l : Leg). l.node) (get_or-map (leg_of legs) (get_or rows v []) i e d (omega arith)) in
      let b = ap (λ (l : Leg). l.node) (get_or-map (leg_of legs) (get_or rows v []) j e d (omega arith)) in
      let s = strict (get_or rows v []) (sorted.order v lt) (λ p h. single v p lt h) i j e less (omega arith) in
      omega arith

  -- each leg of a row is a leg of the list
  leg_up : (v : ℕ) → v < n → (e : Placed) → Contains (get_or rows v []) e → IsLegUp H v (leg_of legs e)
  leg_up v lt e h =
      let at = (sorted.each v e lt).0 h in
      let is = (placed e).0 at.0 in
      let l = get_or legs e.place no_saved_leg in
      let has : Contains legs l = Contains-get_or legs e.place no_saved_leg is.0 in
      let up = ends l has in
      let lim = light l has in
      record {
        node = (let x = up.1 in let y = is.2 in omega arith);
        higher = subst (λ ls. slice_index ls v < slice_index ls e.higher) (sym same_levels)
            (subst (λ u. slice_index levels u < slice_index levels e.higher) at.1 is.3);
        weight = lim.0;
        arcs = (let x = lim.1 in omega arith);
      }

  pub legs_up : AreLegsUp H made
  legs_up = (
    length-map rows (λ es. map (leg_of legs) es) ∙ sorted.count ∙ sym size,
    λ v. elim (cases_lt v n) [
      | inl lt ↦ (subst IsRow (sym (row_is v lt)) (rises v lt), subst (All (IsLegUp H v)) (sym (row_is v lt)) (each v lt))
      | inr ge ↦ (
        subst IsRow (sym (past v ge)) (λ i j d less within. absurd (omega arith)),
        subst (All (IsLegUp H v)) (sym (past v ge)) (λ i d within. absurd (omega arith)),
      )
    ],
  )
    where
      past : (v : ℕ) → n ≤ v → row made v ≡ []
      past v ge = get_or_past made v [] (let m = length-map rows (λ es. map (leg_of legs) es) in let c = sorted.count in omega arith)

      each : (v : ℕ) → v < n → All (IsLegUp H v) (map (leg_of legs) (get_or rows v []))
      each v lt i d within =
          let m : length (map (leg_of legs) (get_or rows v [])) ≡ length (get_or rows v []) = length-map (get_or rows v []) (leg_of legs) in
          let e : Placed = record { lower = 0; higher = 0; place = 0 } in
          subst (IsLegUp H v) (sym (get_or-map (leg_of legs) (get_or rows v []) i e d (omega arith)))
          (leg_up v lt (get_or (get_or rows v []) i e) (Contains-get_or (get_or rows v []) i e (omega arith)))

-- the legs of one direction are the legs of the list that go up
module _ (n : ℕ) (low high : SavedLeg → ℕ) (levels : List ℕ) (legs : List SavedLeg) (entries : List Placed) (rows : List (List Placed))
    (placed : ArePlaced low high levels legs entries) (sorted : AreSorted n entries rows)
    (ends : (l : SavedLeg) → Contains legs l → (low l < n) × (high l < n)) where
  -- a leg of a row has a place in the list
  pub row_leg_saved : (v : ℕ) (l : Leg) → v < n → Contains (row (map (λ es. map (leg_of legs) es) rows) v) l →
      (i : ℕ) × (i < length legs) × (low (get_or legs i no_saved_leg) ≡ v) × (high (get_or legs i no_saved_leg) ≡ l.node)
      × ((get_or legs i no_saved_leg).cost ≡ l.cost) × ((get_or legs i no_saved_leg).middle ≡ l.middle)
  row_leg_saved v l lt h =
      let here : row (map (λ es. map (leg_of legs) es) rows) v ≡ map (leg_of legs) (get_or rows v []) =
      get_or-map (λ es. map (leg_of legs) es) rows v [] [] (let c = sorted.count in omega arith) in
      let k = subst (λ q. Contains q l) here h in
      let m : length (map (leg_of legs) (get_or rows v [])) ≡ length (get_or rows v []) = length-map (get_or rows v []) (leg_of legs) in
      let d : Placed = record { lower = 0; higher = 0; place = 0 } in
      let less : k.0 < length (get_or rows v []) = (let w = k.1 in omega arith) in
      let e = get_or (get_or rows v []) k.0 d in
      let same : leg_of legs e ≡ l = sym (get_or-map (leg_of legs) (get_or rows v []) k.0 d l less) ∙ k.2 in
      let at = (sorted.each v e lt).0 (Contains-get_or (get_or rows v []) k.0 d less) in
      let is = (placed e).0 at.0 in (
        e.place,
        is.0,
        sym is.1 ∙ at.1,
        sym is.2 ∙ ap (λ (q : Leg). q.node) same,
        ap (λ (q : Leg). q.cost) same,
        ap (λ (q : Leg). q.middle) same,
      )

  -- a leg of the list that goes up is in the row of its lower node
  pub saved_row_leg : (i : ℕ) → i < length legs →
      slice_index levels (low (get_or legs i no_saved_leg)) < slice_index levels (high (get_or legs i no_saved_leg)) →
      Contains (row (map (λ es. map (leg_of legs) es) rows) (low (get_or legs i no_saved_leg)))
      (record {
        node = high (get_or legs i no_saved_leg);
        cost = (get_or legs i no_saved_leg).cost;
        middle =
            (get_or legs i no_saved_leg).middle;
      })
  saved_row_leg i lt up =
      let l = get_or legs i no_saved_leg in
      let e : Placed = record { lower = low l; higher = high l; place = i } in
      let below = ends l (Contains-get_or legs i no_saved_leg lt) in
      let here : row (map (λ es. map (leg_of legs) es) rows) (low l) ≡ map (leg_of legs) (get_or rows (low l) []) =
      get_or-map (λ es. map (leg_of legs) es) rows (low l) [] [] (let c = sorted.count in let b = below.0 in omega arith) in
      let has = (sorted.each (low l) e below.0).1 ((placed e).1 (lt, refl, refl, up), refl) in
      subst (λ q. Contains q (leg_of legs e)) (sym here) (contains_map (leg_of legs) (get_or rows (low l) []) e has)

-- a leg is determined by its parts
same_saved : (l : SavedLeg) (u w : ℕ) (c : Cost) (m : Option ℕ) → l.from ≡ u → l.to ≡ w → l.cost ≡ c → l.middle ≡ m →
    l ≡ record { from = u; to = w; cost = c; middle = m }
same_saved l u w c m a b d e = λ i. record { from = a i; to = b i; cost = d i; middle = e i }

-- the legs with a key are those of the entries with that key
leg_values : (legs : List SavedLeg) (v : ℕ) (entries : List Placed) →
    values_of v (map (keyed_leg legs) entries) ≡ map (leg_of legs) (values_of v (map (with_key lower_of) entries))
leg_values legs v [] = refl
leg_values legs v (e ∷ entries) = at (e.lower == v) (filter (λ (p : ℕ × Leg). p.0 == v) (map (keyed_leg legs) entries))
    (filter (λ (p : ℕ × Placed). p.0 == v) (map (with_key lower_of) entries)) (leg_values legs v entries)
  where
    at : (t : Bool) (ps : List (ℕ × Leg)) (qs : List (ℕ × Placed)) →
        map (λ (p : ℕ × Leg). p.1) ps ≡ map (leg_of legs) (map (λ (p : ℕ × Placed). p.1) qs) →
        map (λ (p : ℕ × Leg). p.1) (cond t (keyed_leg legs e ∷ ps) ps)
        ≡ map (leg_of legs) (map (λ (p : ℕ × Placed). p.1) (cond t (with_key lower_of e ∷ qs) qs))
    at true ps qs more = ap (λ (z : List Leg). leg_of legs e ∷ z) more
    at false ps qs more = more

-- the entries in rows by lower node
abbrev entry_rows : ℕ → List Placed → List (List Placed)
entry_rows n entries = map (λ v. values_of v (map (with_key lower_of) entries)) (range_with_len 0 n)

entry_rows_are : (n : ℕ) (entries : List Placed) → AreRowsOf n (map (with_key lower_of) entries) (entry_rows n entries)
entry_rows_are n entries = record {
  count = length-map-range_with_len (λ v. values_of v (map (with_key lower_of) entries)) 0 n;
  each = λ i lt. get_or-map-range_with_len (λ v. values_of v (map (with_key lower_of) entries)) 0 n i i [] (omega arith) (omega arith);
}

-- the rows of legs are the legs of these rows of entries
legs_of_rows : (n : ℕ) (legs : List SavedLeg) (entries : List Placed) (rows : List (List Leg)) →
    AreRowsOf n (map (keyed_leg legs) entries) rows →
    rows ≡ map (λ es. map (leg_of legs) es) (entry_rows n entries)
legs_of_rows n legs entries rows a =
    let e = entry_rows_are n entries in
    let size : length (map (λ es. map (leg_of legs) es) (entry_rows n entries)) ≡ length (entry_rows n entries) =
    length-map (entry_rows n entries) (λ es. map (leg_of legs) es) in
    ext_get_or [] rows (map (λ es. map (leg_of legs) es) (entry_rows n entries)) (a.count ∙ sym e.count ∙ sym size) (λ v lt.
    let c = a.count in
    let d = e.count in
    a.each v (omega arith) ∙ leg_values legs v entries ∙ sym (ap (map (leg_of legs)) (e.each v (omega arith)))
    ∙ sym (get_or-map (λ es. map (leg_of legs) es) (entry_rows n entries) v [] [] (omega arith)))

-- a leg of these rows is a leg of the list
of_rows : (n : ℕ) (low high : SavedLeg → ℕ) (levels : List ℕ) (legs : List SavedLeg) (entries : List Placed)
    (rows : List (List Leg)) → IsSide low high levels legs entries → AreRowsOf n (map (keyed_leg legs) entries) rows →
    ((l : SavedLeg) → Contains legs l → (low l < n) × (high l < n)) → (v : ℕ) (l : Leg) → Contains (row rows v) l →
    (x : SavedLeg) × Contains legs x × (low x ≡ v) × (high x ≡ l.node) × (x.cost ≡ l.cost) × (x.middle ≡ l.middle)
of_rows n low high levels legs entries rows side are ends v l h =
    let sorted = sorted_rows n entries (entry_rows n entries) side.order (entry_rows_are n entries) in
    let k = row_leg_saved n low high levels legs entries (entry_rows n entries) side.placed sorted ends v l
    (in_row_below rows n v l are.count h)
    (subst (λ rs. Contains (row rs v) l) (legs_of_rows n legs entries rows are) h) in
    (get_or legs k.0 no_saved_leg, Contains-get_or legs k.0 no_saved_leg k.1, k.2, k.3, k.4, k.5)

-- a leg of the list that goes up is in these rows
in_rows : (n : ℕ) (low high : SavedLeg → ℕ) (levels : List ℕ) (legs : List SavedLeg) (entries : List Placed)
    (rows : List (List Leg)) → IsSide low high levels legs entries → AreRowsOf n (map (keyed_leg legs) entries) rows →
    ((l : SavedLeg) → Contains legs l → (low l < n) × (high l < n)) → (x : SavedLeg) → Contains legs x →
    slice_index levels (low x) < slice_index levels (high x) →
    Contains (row rows (low x)) (record { node = high x; cost = x.cost; middle = x.middle })
in_rows n low high levels legs entries rows side are ends x h up =
    let sorted = sorted_rows n entries (entry_rows n entries) side.order (entry_rows_are n entries) in
    let at : get_or legs h.0 no_saved_leg ≡ x = sym (get_or_default legs h.0 x no_saved_leg h.1) ∙ h.2 in
    let stands = saved_row_leg n low high levels legs entries (entry_rows n entries) side.placed sorted ends h.0 h.1
    (subst (λ (q : SavedLeg). slice_index levels (low q) < slice_index levels (high q)) (sym at) up) in
    subst (λ rs. Contains (row rs (low x)) (record { node = high x; cost = x.cost; middle = x.middle }))
    (sym (legs_of_rows n legs entries rows are))
    (subst (λ (q : SavedLeg). Contains (row (map (λ es. map (leg_of legs) es) (entry_rows n entries)) (low q))
    (record { node = high q; cost = q.cost; middle = q.middle })) at stands)

-- if no two entries have the same two nodes, no row has a double
single_rows : (n : ℕ) (low high : SavedLeg → ℕ) (levels : List ℕ) (legs : List SavedLeg) (entries : List Placed) →
    IsSide low high levels legs entries →
    (v p : ℕ) → v < n → IsDouble (get_or (entry_rows n entries) v []) p → ⊥
single_rows n low high levels legs entries side v p lt h =
    side.single p (twin_of_double n entries (entry_rows n entries)
    (sorted_rows n entries (entry_rows n entries) side.order (entry_rows_are n entries)) v p lt h)

-- the rows of both directions
module _ (n : ℕ) (s : OrderAndLegs) (ups downs : List Placed) (H : LevelsAndLegs) (small : n ≤ MOST_NODES)
    (is : IsOrderOf n s.order) (are : AreLevelsOf s.order H.level)
    (pairs : ArePairs n H.level s.legs ups downs) (light : (l : SavedLeg) → Contains s.legs l → IsWithinBounds n l)
    (a : AreRowsOf n (map (keyed_leg s.legs) ups) H.up) (b : AreRowsOf n (map (keyed_leg s.legs) downs) H.down) where
  size : nodes_of H ≡ n
  size = sized n s.order H.level is are

  rise : (l : SavedLeg) → Contains s.legs l → (from_of l < n) × (to_of l < n)
  rise l h = let x = pairs.joins l h in (x.0, x.1)

  fall : (l : SavedLeg) → Contains s.legs l → (to_of l < n) × (from_of l < n)
  fall l h = let x = pairs.joins l h in (x.1, x.0)

  up_sorted : AreSorted n ups (entry_rows n ups)
  up_sorted = sorted_rows n ups (entry_rows n ups) pairs.up.order (entry_rows_are n ups)

  down_sorted : AreSorted n downs (entry_rows n downs)
  down_sorted = sorted_rows n downs (entry_rows n downs) pairs.down.order (entry_rows_are n downs)

  levelled : IsLevelled H
  levelled = record {
    count = (let e = size in omega arith);
    levels = levels_are n s.order H.level is are;
    up = subst (AreLegsUp H) (sym (legs_of_rows n s.legs ups H.up a))
        (legs_up n from_of to_of H.level s.legs ups (entry_rows n ups) H size refl pairs.up.placed up_sorted
        (single_rows n from_of to_of H.level s.legs ups pairs.up) rise light);
    down = subst (AreLegsUp H) (sym (legs_of_rows n s.legs downs H.down b))
        (legs_up n to_of from_of H.level s.legs downs (entry_rows n downs) H size refl pairs.down.placed down_sorted
        (single_rows n to_of from_of H.level s.legs downs pairs.down) fall light);
  }

  there : (u w : ℕ) (c : Cost) (m : Option ℕ) → IsLeg H u w c m → Contains s.legs (record { from = u; to = w; cost = c; middle = m })
  there u w c m (l, cost, middle, inl h) =
      let k = of_rows n from_of to_of H.level s.legs ups H.up pairs.up a rise u l h.0 in
      subst (Contains s.legs) (same_saved k.0 u w c m k.2 (k.3 ∙ h.1) (k.4 ∙ cost) (k.5 ∙ middle)) k.1
  there u w c m (l, cost, middle, inr h) =
      let k = of_rows n to_of from_of H.level s.legs downs H.down pairs.down b fall w l h.0 in
      subst (Contains s.legs) (same_saved k.0 u w c m (k.3 ∙ h.1) k.2 (k.4 ∙ cost) (k.5 ∙ middle)) k.1

  back : (u w : ℕ) (c : Cost) (m : Option ℕ) → Contains s.legs (record { from = u; to = w; cost = c; middle = m }) → IsLeg H u w c m
  back u w c m h =
      let x : SavedLeg = record { from = u; to = w; cost = c; middle = m } in
      let joins = pairs.joins x h in
      elim (one_is_higher n s.order H.level is are u w joins.0 joins.1 joins.2) [
        | inl up ↦ (
          record { node = w; cost = c; middle = m },
          refl,
          refl,
          inl (in_rows n from_of to_of H.level s.legs ups H.up pairs.up a rise x h up, refl),
        )
        | inr down ↦ (
          record { node = u; cost = c; middle = m },
          refl,
          refl,
          inr (in_rows n to_of from_of H.level s.legs downs H.down pairs.down b fall x h down, refl),
        )
      ]

  -- the rows of both directions make the hierarchy that is named
  pub named_by_rows : NamesHierarchy s H × (nodes_of H ≡ n)
  named_by_rows = (
    record {
      levelled = levelled;
      levels = are;
      legs = λ u w c m. (there u w c m, λ h. back u w c m h);
      once = pairs_once n s.order H.level is are s.legs ups downs pairs.joins pairs.up.placed pairs.down.placed
          (λ p t. elim t [ inl up ↦ pairs.up.single p up | inr down ↦ pairs.down.single p down ]);
    },
    size,
  )

-- the same for the lists as the code has them, and as it lends slices of them
pub rows_name : (g : Network) (s : OrderAndLegs) (n : ℕ) (order levels levels' : List ℕ) (legs : List SavedLeg)
    (ups ups' downs downs' : List Placed) (up down : List (List Leg)) →
    g.nodes ≤ MOST_NODES → n ≡ g.nodes → order ≡ s.order → legs ≡ s.legs → levels' ≡ levels → ups' ≡ ups → downs' ≡ downs →
    IsOrderOf n order → AreLevelsOf order levels → ArePairs n levels' legs ups downs →
    ((l : SavedLeg) → Contains legs l → IsWithinBounds n l) →
    AreRowsOf n (map (keyed_leg legs) ups') up → AreRowsOf n (map (keyed_leg legs) downs') down →
    NamesFor g s (record { level = levels; up = up; down = down })
rows_name g s n order levels levels' legs ups ups' downs downs' up down small nodes a b same_levels same_ups same_downs is are pairs
    light x y =
    let H : LevelsAndLegs = record { level = levels; up = up; down = down } in
    let named = named_by_rows n (record { order = order; legs = legs }) ups downs H (omega arith) is are
    (subst (λ q. ArePairs n q legs ups downs) same_levels pairs) light
    (subst (λ q. AreRowsOf n (map (keyed_leg legs) q) up) same_ups x)
    (subst (λ q. AreRowsOf n (map (keyed_leg legs) q) down) same_downs y) in
    (subst (λ q. NamesHierarchy q H) (same_saved_lists order legs s a b) named.0, named.1 ∙ nodes)
  where
    same_saved_lists : (order : List ℕ) (legs : List SavedLeg) (s : OrderAndLegs) → order ≡ s.order → legs ≡ s.legs →
        record { order = order; legs = legs } ≡ s
    same_saved_lists order legs s a b = λ i. record { order = a i; legs = b i }
