-- The entries of the lists that are not empty, and their order.
use Rattle.std.proofs.Common.{◌≡◌, ◌≢◌, ℕ, ◌+◌, ◌<◌, ◌≤◌, true, false, Bool, is_lt, true≢false, ⊎_elim, List, [], ◌∷◌, ◌++◌, length}
use Rattle.std.proofs.Common.{map, get_or, Some, Contains, refl, ap, arith, sym, ◌∙◌, subst, nat_cmp}
use Rattle.std.specs.Prelude.{AllPairs, eqb, nat_lt}
use Rattle.std.specs.List.{slice_get}
use Rattle.std.specs.List.Sorted.{IsPermutation, IsSorted}
use Rattle.std.specs.Ordering.{ordering_then}
use Rattle.std.proofs.lemmas.Bool.{ltb-false, eqb-false, ne_eqb}
use Rattle.std.proofs.lemmas.Bool.Decides.{nat_tests}
use Rattle.std.proofs.lemmas.List.{length-map, get_or-map}
use Rattle.std.proofs.lemmas.List.Elements.{Contains-push, Contains-push_cases, Contains-append_left, Contains-get_or}
use Rattle.std.proofs.lemmas.List.Quantifiers.{all_pairs_push}
use Rattle.std.proofs.lemmas.List.Sorted.{Contains-permutation, IsPermutation-sym, IsPermutation-map, IsNonDecreasingBy-from_all_adjacent}
use Rattle.std.proofs.lemmas.Map.Keys.{IsDistinct-from_apart, apart_from_distinct, IsDistinct-IsPermutation}
use Rattle.ch_lists.specs.declared.place.Place.{Place}
use Rattle.ch_lists.specs.Packing.{IsEntry, AreListed, AreInOrder}
use Rattle.ch_lists.proofs.Found.{cases, one}

-- an empty list has no entry
pub listed_empty : (places : List Place) (n : ℕ) (entries : List (ℕ × ℕ)) (p : Place) → AreListed places n entries →
    slice_get places n ≡ Some p → p.len ≡ 0 → AreListed places (n + 1) entries
listed_empty places n entries p are at empty = record {
  entry = λ e has. let w = are.entry e has in (w.0, omega arith);
  each = λ i q low is some. cases i n
      (λ same. let e = ap (λ (s : Place). s.len) (one places i n q p same is at) in absurd (omega arith))
      (λ differ. are.each i q (omega arith) is some);
  once = are.once;
}

-- one more list that is not empty has an entry
pub listed_more : (places : List Place) (n : ℕ) (entries : List (ℕ × ℕ)) (p : Place) → AreListed places n entries →
    slice_get places n ≡ Some p → 0 < p.len
    → AreListed places (n + 1) (entries ++ (p.start, n) ∷ [])
listed_more places n entries p are at full = record {
  entry = λ e has. ⊎_elim
      (λ old. let w = are.entry e old in (w.0, omega arith))
      (λ new. subst (λ (f : ℕ × ℕ). IsEntry places f × (f.1 < n + 1)) new ((p, at, refl, full), omega arith))
      (Contains-push_cases entries (p.start, n) e has);
  each = λ i q low is some. cases i n
      (λ same. subst (λ (f : ℕ × ℕ). Contains (entries ++ (p.start, n) ∷ []) f)
      (ap (λ (s : Place). (s.start, n)) (sym (one places i n q p same is at)) ∙ ap (λ m. (q.start, m)) (sym same))
      (Contains-push entries (p.start, n)))
      (λ differ. Contains-append_left entries ((p.start, n) ∷ []) (q.start, i) (are.each i q (omega arith) is some));
  once = all_pairs_push (λ a b. a.1 ≢ b.1) entries (p.start, n) are.once (λ k d low same.
      let w = are.entry (get_or entries k d) (Contains-get_or entries k d low) in
      let b = w.1 in
      absurd (omega (arith, same)));
}

-- an entry that is not less than another starts no earlier
start_rises : (a b : ℕ × ℕ) → is_lt (ordering_then (nat_cmp b.0 a.0) (nat_cmp b.1 a.1)) ≡ false → a.0 ≤ b.0
start_rises a b not_less = at (nat_lt b.0 a.0) refl
  where
    at : (t : Bool) → nat_lt b.0 a.0 ≡ t → a.0 ≤ b.0
    at true is = absurd (true≢false (sym (rw is refl) ∙ not_less))
    at false is = ltb-false b.0 a.0 is

-- the test of equality gives the same in either order
eqb_flips : (a b : ℕ) → eqb a b ≡ eqb b a
eqb_flips a b = grind (arith, nat_tests)

-- entries of different lists stay so after a permutation
once_more : (entries sorted : List (ℕ × ℕ)) → AllPairs (λ a b. a.1 ≢ b.1) entries → IsPermutation entries sorted →
    AllPairs (λ a b. a.1 ≢ b.1) sorted
once_more entries sorted once turn i j d before within =
    let numbers = λ (e : ℕ × ℕ). e.1 in
    let distinct = IsDistinct-from_apart eqb (map numbers entries) (λ k m n low high.
    let long = length-map entries numbers in
    let a = get_or-map numbers entries k d n (omega arith) in
    let b = get_or-map numbers entries m d n (omega arith) in
    ne_eqb _ _ (λ same. once k m d low (omega arith) (sym a ∙ same ∙ b))) in
    let turned = IsDistinct-IsPermutation eqb eqb_flips (map numbers entries) (map numbers sorted)
    (IsPermutation-map numbers entries sorted turn) distinct in
    let long = length-map sorted numbers in
    let a = get_or-map numbers sorted i d 0 (omega arith) in
    let b = get_or-map numbers sorted j d 0 (omega arith) in
    λ same. eqb-false _ _ (apart_from_distinct eqb (map numbers sorted) i j 0 turned before (omega arith)) (a ∙ same ∙ sym b)

-- the entries, sorted by the starts of their lists
pub sorted_entries : (places : List Place) (entries sorted : List (ℕ × ℕ)) → AreListed places (length places) entries →
    IsPermutation entries sorted
    → IsSorted (λ a b. ordering_then (nat_cmp a.0 b.0) (nat_cmp a.1 b.1)) sorted → AreInOrder places sorted
sorted_entries places entries sorted are turn rises = record {
  listed = record {
    entry = λ e has. are.entry e (Contains-permutation sorted entries e (IsPermutation-sym entries sorted turn) has);
    each = λ i p low is some. Contains-permutation entries sorted (p.start, i) turn (are.each i p low is some);
    once = once_more entries sorted are.once turn;
  };
  rising = IsNonDecreasingBy-from_all_adjacent (λ e. e.0) sorted
      (λ k d low. start_rises (get_or sorted k d) (get_or sorted (k + 1) d) (rises k d (omega arith) low));
}
