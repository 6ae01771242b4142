-- Places whose rooms do not overlap.
use Rattle.std.proofs.Common.{◌≡◌, ◌≢◌, ℕ, ◌+◌, ◌^◌, ◌<◌, ◌≤◌, inl, inr, List, [], ◌∷◌, ◌++◌, length, set, get_or, Some, refl, ap}
use Rattle.std.proofs.Common.{arith, sym, ◌∙◌, subst, replicate}
use Rattle.std.specs.List.{slice_get}
use Rattle.std.proofs.lemmas.List.{length-set, length-map, length-replicate, get_or-map, get_or-replicate, same_lists, length_push}
use Rattle.std.proofs.lemmas.Option.{slice_get-get_or}
use Rattle.std.proofs.Math.Logic.{⊎_elim}
use Rattle.ch_lists.specs.declared.place.Place.{Place}
use Rattle.ch_lists.specs.Places.{values_at, lists_at, AreApart, ArePlaces, AreEmptyPlaces}
use Rattle.ch_lists.specs.Packing.{nowhere}
use Rattle.ch_lists.proofs.Found.{found, found_push}

-- not overlapping is symmetric
pub apart_back : (p q : Place) → AreApart p q → AreApart q p
apart_back p q are = ⊎_elim inr inl are

-- an equal place overlaps no room either
pub apart_from : (p q r : Place) → p ≡ q → AreApart q r → AreApart p r
apart_from p q r same are = subst (λ (s : Place). AreApart s r) (sym same) are

-- the place without room overlaps no other
pub apart_nowhere : (p : Place) → AreApart nowhere p
apart_nowhere p = inl (omega arith)

-- one place is replaced by another that does not overlap the others
pub set_places : (places : List Place) (i size larger : ℕ) (now : Place) → ArePlaces places size → size ≤ larger → larger < 2 ^ 32 →
    now.len ≤ now.room → now.start + now.room ≤ larger
    → ((k : ℕ) (p : Place) → slice_get places k ≡ Some p → k ≢ i → AreApart now p) → ArePlaces (set places i now) larger
set_places places i size larger now are more small fits within free = record {
  few = omega (arith, length-set places i now, are.few);
  small = small;
  fits = λ j p is. ⊎_elim
      (λ w. subst (λ (s : Place). s.len ≤ s.room) (sym w.1) fits)
      (λ w. are.fits j p w.1)
      (found places i j now p is);
  within = λ j p is. ⊎_elim
      (λ w. subst (λ (s : Place). s.start + s.room ≤ larger) (sym w.1) within)
      (λ w. let b = are.within j p w.1 in omega arith)
      (found places i j now p is);
  apart = λ j k p q at_j at_k differ. ⊎_elim
      (λ v. ⊎_elim
      (λ w. absurd (differ (v.0 ∙ sym w.0)))
      (λ w. apart_from p now q v.1 (free k q w.1 w.0))
      (found places i k now q at_k))
      (λ v. ⊎_elim
      (λ w. apart_back q p (apart_from q now p w.1 (free j p v.1 v.0)))
      (λ w. are.apart j k p q v.1 w.1 differ)
      (found places i k now q at_k))
      (found places i j now p at_j);
}

-- one more empty place behind the others
pub push_places : (places : List Place) (count size : ℕ) (p : Place) → AreEmptyPlaces count size places → p.start ≡ size →
    p.len ≡ 0 → size + p.room < 2 ^ 32 → count + 1 < 2 ^ 32
    → AreEmptyPlaces (count + 1) (size + p.room) (places ++ p ∷ [])
push_places places count size p are start empty small few = record {
  counted = omega (arith, length_push places p, are.counted);
  empty = λ i q is. ⊎_elim (λ w. ap (λ (s : Place). s.len) w.1 ∙ empty) (are.empty i q) (found_push places p q i is);
  placed = record {
    few = omega (arith, length_push places p, are.counted);
    small = small;
    fits = λ i q is. ⊎_elim
        (λ w. subst (λ (s : Place). s.len ≤ s.room) (sym w.1) (omega arith))
        (λ w. are.placed.fits i q w)
        (found_push places p q i is);
    within = λ i q is. ⊎_elim
        (λ w. subst (λ (s : Place). s.start + s.room ≤ size + p.room) (sym w.1) (omega arith))
        (λ w. let b = are.placed.within i q w in omega arith)
        (found_push places p q i is);
    apart = λ i j q r at_i at_j differ. ⊎_elim
        (λ v. ⊎_elim
        (λ w. absurd (differ (v.0 ∙ sym w.0)))
        (λ w. apart_from q p r v.1 (let b = are.placed.within j r w in inr (omega arith)))
        (found_push places p r j at_j))
        (λ v. ⊎_elim
        (λ w. apart_back r q (apart_from r p q w.1 (let b = are.placed.within i q v in inr (omega arith))))
        (λ w. are.placed.apart i j q r v w differ)
        (found_push places p r j at_j))
        (found_push places p q i at_i);
  };
}

-- the lists at empty places are empty
pub empty_lists : {X : Type 0} (values : List X) (places : List Place) (count size : ℕ) → AreEmptyPlaces count size places →
    lists_at values places ≡ replicate count []
empty_lists {X} values places count size are =
    let l = length-map places (values_at values) in
    let none : List X = [] in
    let r : length (replicate count none) ≡ count = length-replicate count none in
    same_lists (lists_at values places) (replicate count none) (omega (arith, are.counted)) (λ k d low.
    let p : Place = record { start = 0; len = 0; room = 0 } in
    let within : k < length places = omega arith in
    get_or-map (values_at values) places k p d within
    ∙ no_values (get_or places k p) (are.empty k (get_or places k p) (slice_get-get_or places k p within))
    ∙ sym (get_or-replicate count k none d (omega (arith, are.counted))))
  where
    no_values : (p : Place) → p.len ≡ 0 → values_at values p ≡ []
    no_values p is = rw is refl
