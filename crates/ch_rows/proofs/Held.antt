-- Lists of ranks and weights, and the buckets that hold them.
use Rattle.std.proofs.Common.{◌≡◌, ℕ, zero, suc, ◌+◌, ◌<◌, List, [], ◌∷◌, ◌++◌, length, map, take, drop, get_or, Vec, Contains, refl, sym}
use Rattle.std.proofs.Common.{◌∙◌, ap, subst, arith, inl, inr}
use Rattle.std.specs.Prelude.{◌==◌, All, AllPairs, slice_index_or}
use Rattle.std.specs.List.{filter}
use Rattle.std.specs.declared.alloc.Global.{Global}
use Rattle.std.proofs.lemmas.Bool.{cases_lt, eqb-true}
use Rattle.std.proofs.lemmas.Bool.Decides.{nat_tests}
use Rattle.std.proofs.lemmas.List.{get_or_past, get_or-map, length-map, take-append-le, take_all}
use Rattle.std.proofs.lemmas.List.Elements.{All-contains, filter_passes}
use Rattle.std.proofs.lemmas.List.Kept.{AllPairs-filter}
use Rattle.ch_graph.specs.Rows.{AreRowsOf, pairs_of}
use Rattle.ch_graph.proofs.Gathering.{pairs_rise, pairs_sound, pairs_whole}
use Rattle.ch_graph.proofs.Lists.{contains_none, contains_map, contains_map_of, contains_filter, contains_filter_of, pairs_map}
use Rattle.ch_rows.specs.Buckets.{AreRanksApart, HoldLists}
use Rattle.ch_rows.specs.Dealing.{dealt}

-- past the last list nothing is held
pub held_within : {X : Type 0} (lists : List (List X)) (v : ℕ) (x : X) → Contains (slice_index_or lists v []) x → v < length lists
held_within lists v x h = elim (cases_lt v (length lists)) [
  | inl lt ↦ lt
  | inr past ↦ absurd (contains_none x (subst (λ l. Contains l x) (get_or_past lists v [] past) h))
]

-- the rows of the pairs of lists hold the lists
pub hold_lists : (n : ℕ) (lists : List (List (ℕ × ℕ))) → All (λ list. All (λ entry. entry.0 < n) list) lists →
    (buckets : List (List (ℕ × ℕ))) → AreRowsOf n (pairs_of lists) buckets → HoldLists n (λ rank. rank) lists buckets
hold_lists n lists below buckets made = record {
  count = made.count;
  sound = λ q j x c.
      let size = made.count in
      let lt : q < n = (let within = held_within buckets q (j, x) c in omega arith) in
      let here = subst (λ l. Contains l (j, x)) (made.each q lt) c in
      let r = contains_map_of (λ (e : ℕ × (ℕ × ℕ)). e.1) (filter (λ e. e.0 == q) (pairs_of lists)) (j, x) here in
      let s = contains_filter_of (λ e. e.0 == q) (pairs_of lists) r.0 r.1 in
      let is : r.0 ≡ (q, (j, x)) = λ i. (eqb-true _ _ s.1 i, r.2 i) in
      let p = pairs_sound 0 lists q j x (subst (Contains (pairs_of lists)) is s.0) in
      let less = p.1 in
      let at = p.2 in
      let place : p.0 ≡ j = omega arith in
      (omega arith, q, subst (λ i. Contains (slice_index_or lists i []) (q, x)) place p.3, refl);
  whole = λ r j x lt c.
      let place : 0 + j ≡ j = omega arith in
      let pair = subst (λ q. Contains (pairs_of lists) (r, (q, x))) place (pairs_whole 0 lists j r x lt c) in
      let low = All-contains (λ (entry : ℕ × ℕ). entry.0 < n) (slice_index_or lists j []) (r, x) (below j [] lt) c in
      subst (λ l. Contains l (j, x)) (sym (made.each r low))
      (contains_map (λ (e : ℕ × (ℕ × ℕ)). e.1) (filter (λ e. e.0 == r) (pairs_of lists)) (r, (j, x))
      (contains_filter (λ e. e.0 == r) (pairs_of lists) (r, (j, x)) pair (let e : r ≡ r = refl in grind (arith, nat_tests))));
}

-- if no rank occurs twice in a list, a row of the pairs is in order of place
pub rows_rise : (n : ℕ) (lists : List (List (ℕ × ℕ))) → All AreRanksApart lists → (rows : List (List (ℕ × ℕ))) →
    AreRowsOf n (pairs_of lists) rows → (rank : ℕ) → AllPairs (λ a b. a.0 < b.0) (slice_index_or rows rank [])
rows_rise n lists apart rows made rank = elim (cases_lt rank n) [
  | inr past ↦ (let size = made.count in subst (AllPairs (λ a b. a.0 < b.0)) (sym (get_or_past rows rank [] (omega arith)))
      (λ i j d lt within. absurd (omega arith)))
  | inl low ↦ subst (AllPairs (λ a b. a.0 < b.0)) (sym (made.each rank low))
      (pairs_map (λ (e : ℕ × (ℕ × ℕ)). e.1) (λ a b. a.0 < b.0) (filter (λ e. e.0 == rank) (pairs_of lists)) (λ i j d lt within.
      let passes = filter_passes (λ e. e.0 == rank) (pairs_of lists) in
      let first = eqb-true _ _ (passes i d (omega arith)) in
      let second = eqb-true _ _ (passes j d within) in
      AllPairs-filter (λ a b. a.0 ≡ b.0 → a.1.0 < b.1.0) (λ e. e.0 == rank) (pairs_of lists) (pairs_rise 0 lists apart)
      i j d lt within (first ∙ sym second)))
]

-- buckets that hold lists with items in place of ranks hold the lists by items
pub held_dealt : (n : ℕ) (item : ℕ → ℕ) (lists buckets : List (List (ℕ × ℕ))) →
    HoldLists n (λ rank. rank) (map (map (dealt item)) lists) buckets → HoldLists n item lists buckets
held_dealt n item lists buckets h =
    let size = length-map lists (map (dealt item)) in
    let at : (j : ℕ) → j < length lists → slice_index_or (map (map (dealt item)) lists) j [] ≡ map (dealt item) (slice_index_or lists j [])
    = λ j lt. get_or-map (map (dealt item)) lists j [] [] lt in
    record {
      count = h.count;
      sound = λ q j x c.
          let r = h.sound q j x c in
          let lt : j < length lists = (let low = r.0 in omega arith) in
          let p = contains_map_of (dealt item) (slice_index_or lists j []) (r.1, x) (subst (λ l. Contains l (r.1, x)) (at j lt) r.2) in (
            lt,
            p.0.0,
            subst (λ w. Contains (slice_index_or lists j []) (p.0.0, w)) (ap (λ (e : ℕ × ℕ). e.1) p.2) p.1,
            ap (λ (e : ℕ × ℕ). e.0) p.2 ∙ r.3,
          );
      whole = λ r j x lt c. h.whole (item r) j x (omega arith)
          (subst (λ l. Contains l (item r, x)) (sym (at j lt)) (contains_map (dealt item) (slice_index_or lists j []) (r, x) c));
    }

-- what a loop wrote into all elements of a vector is what the vector holds
pub written : {X : Type 0} (n : ℕ) (new old : List X) → n ≡ length old → length new ≡ length old →
    take n (new ++ drop (length new) old) ≡ new
written n new old all size = take-append-le n new (drop (length new) old) (omega arith) ∙ take_all n new (omega arith)

-- vectors that have items in place of ranks, one by one, are lists that have
pub all_dealt : (item : ℕ → ℕ) (old new : List (Vec (ℕ × ℕ) Global)) → length new ≡ length old →
    ((k : ℕ) (d : Vec (ℕ × ℕ) Global) → k < length old → (get_or new k d).items ≡ map (dealt item) (get_or old k d).items) →
    map (λ list. list.items) new ≡ map (map (dealt item)) (map (λ list. list.items) old)
all_dealt item [] [] size each = refl
all_dealt item [] (list ∷ new) size each = absurd (omega arith)
all_dealt item (list ∷ old) [] size each = absurd (omega arith)
all_dealt item (list ∷ old) (list' ∷ new) size each =
    let rest = all_dealt item old new (omega arith) (λ k d lt. each (suc k) d (omega arith)) in
    λ i. each zero list (omega arith) i ∷ rest i
