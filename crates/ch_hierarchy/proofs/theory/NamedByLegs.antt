-- An order of the nodes, and legs that are right alone and together, name a hierarchy.
use Rattle.std.proofs.Common.{◌≡◌, ℕ, zero, suc, ◌+◌, ◌<◌, ◌≤◌, List, [], ◌∷◌, ◌++◌, length, map, get_or, set, Contains, refl}
use Rattle.std.proofs.Common.{subst, arith, inl, inr}
use Rattle.std.specs.Prelude.{AllPairs, slice_index, replicate}
use Rattle.std.specs.List.{range_with_len}
use Rattle.std.proofs.lemmas.Bool.{cases_eq, cases_lt}
use Rattle.std.proofs.lemmas.List.{get_or-replicate, length-replicate, get_or_past}
use Rattle.std.proofs.lemmas.List.FromFn.{length-map-range_with_len, get_or-map-range_with_len}
use Rattle.ch_graph.specs.declared.limits.TheConstants.{MOST_NODES}
use Rattle.ch_graph.specs.declared.saved.SavedLeg.{SavedLeg}
use Rattle.ch_graph.specs.Rows.{values_of, AreRowsOf}
use Rattle.ch_graph.specs.Saved.{OrderAndLegs}
use Rattle.ch_graph.specs.Sorting.{with_key, row_by_row}
use Rattle.ch_hierarchy.specs.declared.placing.Placed.{Placed}
use Rattle.ch_hierarchy.specs.Assembling.{IsSide, ArePairs}
use Rattle.ch_hierarchy.specs.Hierarchy.{LevelsAndLegs, nodes_of}
use Rattle.ch_hierarchy.specs.Placing.{no_saved_leg, from_of, to_of, ArePlaced, keyed_leg}
use Rattle.ch_hierarchy.specs.Saved.{IsOrderOf, AreLevelsOf, NamesHierarchy, JoinsNodes, IsWithinBounds, IsSamePair}
use Rattle.ch_hierarchy.specs.Sorting.{IsEarlier, higher_of}
use Rattle.ch_hierarchy.proofs.code.OrderLevels.{HasLevels, one_level, came_before, all_levels}
use Rattle.ch_hierarchy.proofs.code.PairFaults.{ArePlacedBefore, placed_none, placed_more, placed_all, placed_sorted, placed_below}
use Rattle.ch_hierarchy.proofs.code.PairFaults.{twin_legs}
use Rattle.ch_hierarchy.proofs.code.PlacedRows.{named_by_rows}
use Rattle.ch_hierarchy.proofs.code.SortedPlaces.{sort_of}

-- the rows of values with a key
abbrev rows_of : {T : Type 0} → ℕ → List (ℕ × T) → List (List T)
rows_of n pairs = map (λ v. values_of v pairs) (range_with_len 0 n)

rows_are : {T : Type 0} (n : ℕ) (pairs : List (ℕ × T)) → AreRowsOf n pairs (rows_of n pairs)
rows_are n pairs = record {
  count = length-map-range_with_len (λ v. values_of v pairs) 0 n;
  each = λ i lt. get_or-map-range_with_len (λ v. values_of v pairs) 0 n i i [] (omega arith) (omega arith);
}

-- no node has a level yet
abbrev no_level : ℕ → List ℕ
no_level n = replicate n 0

no_level_is : (n v : ℕ) → get_or (no_level n) v 0 ≡ 0
no_level_is n v = elim (cases_lt v n) [
  | inl lt ↦ get_or-replicate n v 0 0 lt
  | inr ge ↦ get_or_past (no_level n) v 0 (let size : length (no_level n) ≡ n = length-replicate n 0 in omega (arith, size, ge))
]

module _ (n : ℕ) (order : List ℕ) (is : IsOrderOf n order) where
  -- at first no node has its level
  none_levelled : HasLevels n order (no_level n) 0
  none_levelled = record {
    size = length-replicate n 0;
    within = λ j lt. absurd (omega arith);
    each = λ j lt. absurd (omega arith);
    marked = λ v some. (let none = no_level_is n v in absurd (omega (arith, none, some)));
  }

  -- the nodes get their levels one after another
  levels_before : (i : ℕ) → i ≤ n → (levels : List ℕ) × HasLevels n order levels i
  levels_before zero le = (no_level n, none_levelled)
  levels_before (suc i) le =
      let rest = levels_before i (omega arith) in
      let inside : i < length order = (let c = is.count in omega arith) in
      let next : i + 1 ≡ suc i = omega arith in
      let free : get_or rest.0 (get_or order i 0) 0 ≡ 0 = elim (cases_eq (get_or rest.0 (get_or order i 0) 0) 0) [
        | inl none ↦ none
        | inr taken ↦ absurd (came_before n order rest.0 i rest.1 inside taken is)
      ] in (
        set rest.0 (get_or order i 0) (i + 1),
        subst (HasLevels n order (set rest.0 (get_or order i 0) (i + 1))) next
            (one_level n order rest.0 i rest.1 (is.within i inside) free),
      )

  -- in the end all nodes have their levels
  levels_there : (levels : List ℕ) × AreLevelsOf order levels
  levels_there =
      let all = levels_before n (omega arith) in (all.0, (all_levels n order all.0 n all.1 is.count (let c = is.count in omega arith)).1)

module _ (n : ℕ) (low high : SavedLeg → ℕ) (levels : List ℕ) (legs : List SavedLeg) where
  -- the entries of the first legs
  entries_before : (i : ℕ) → i ≤ length legs → (entries : List Placed) × ArePlacedBefore low high levels legs i entries
  entries_before zero le = ([], placed_none low high levels legs)
  entries_before (suc i) le =
      let rest = entries_before i (omega arith) in
      let next : i + 1 ≡ suc i = omega arith in
      subst (λ k. (entries : List Placed) × ArePlacedBefore low high levels legs k entries) next (one_more i rest.0 rest.1 (omega arith))
    where
      one_more : (i : ℕ) (old : List Placed) → ArePlacedBefore low high levels legs i old → i < length legs →
          (new : List Placed) × ArePlacedBefore low high levels legs (i + 1) new
      one_more i old before lt =
          let e : Placed = record { lower = low (get_or legs i no_saved_leg); higher = high (get_or legs i no_saved_leg); place = i } in
          elim (cases_lt (slice_index levels e.lower) (slice_index levels e.higher)) [
            | inl up ↦ (old ++ e ∷ [], placed_more low high levels legs i old (old ++ e ∷ []) before lt (inl (up, refl)))
            | inr level ↦ (old, placed_more low high levels legs i old old before lt (inr (level, refl)))
          ]

  -- the entries of all legs
  entries_there : (entries : List Placed) × ArePlaced low high levels legs entries × AllPairs IsEarlier entries
  entries_there =
      let all = entries_before (length legs) (omega arith) in
      let placed = placed_all low high levels legs (length legs) all.0 (omega arith) all.1 in
      (all.0, placed.0, placed.1)

  -- the entries of all legs in order, if no two legs have the same ends
  side_there : ((l : SavedLeg) → Contains legs l → (low l < n) × (high l < n)) →
      ((i j : ℕ) → i < j → j < length legs → low (get_or legs i no_saved_leg) ≡ low (get_or legs j no_saved_leg) →
      high (get_or legs i no_saved_leg) ≡ high (get_or legs j no_saved_leg) → ⊥) →
      (entries : List Placed) × IsSide low high levels legs entries
  side_there ends single =
      let all = entries_there in
      let rows = rows_of n (map (with_key higher_of) all.0) in
      let sort = sort_of n all.0 (row_by_row rows) (placed_below low high levels legs n all.0 all.1 ends) all.2
      (rows, rows_are n (map (with_key higher_of) all.0), refl) in
      let placed = placed_sorted low high levels legs all.0 (row_by_row rows) all.1 sort in (
        row_by_row rows,
        record {
          placed = placed;
          order = sort.order;
          single = λ p t. (let twins = twin_legs low high levels legs (row_by_row rows) placed p t in
              single twins.0 p twins.1 twins.2 twins.3 twins.4);
        },
      )

-- the hierarchy has the levels of the order, and each node has the legs whose lower end it is
pub named_there : (n : ℕ) (s : OrderAndLegs) → n ≤ MOST_NODES → IsOrderOf n s.order →
    ((l : SavedLeg) → Contains s.legs l → JoinsNodes n l) →
    ((i j : ℕ) → i < j → j < length s.legs → IsSamePair (get_or s.legs i no_saved_leg) (get_or s.legs j no_saved_leg) → ⊥) →
    ((l : SavedLeg) → Contains s.legs l → IsWithinBounds n l) → (H : LevelsAndLegs) × NamesHierarchy s H × (nodes_of H ≡ n)
named_there n s small is joins once light =
    let levels = levels_there n s.order is in
    let up = side_there n from_of to_of levels.0 s.legs (λ l h. let j = joins l h in (j.0, j.1))
    (λ i j less lt from to. once i j less lt (from, to)) in
    let down = side_there n to_of from_of levels.0 s.legs (λ l h. let j = joins l h in (j.1, j.0))
    (λ i j less lt to from. once i j less lt (from, to)) in
    let H : LevelsAndLegs = record {
      level = levels.0;
      up = rows_of n (map (keyed_leg s.legs) up.0);
      down =
          rows_of n (map (keyed_leg s.legs) down.0);
    } in
    let pairs : ArePairs n levels.0 s.legs up.0 down.0 = record { joins = joins; up = up.1; down = down.1 } in
    let named = named_by_rows n s up.0 down.0 H small is levels.1 pairs light (rows_are n (map (keyed_leg s.legs) up.0))
    (rows_are n (map (keyed_leg s.legs) down.0)) in
    (H, named.0, named.1)
