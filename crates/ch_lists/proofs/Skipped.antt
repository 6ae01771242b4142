-- The first lists are left out. The places and the values of the others stay.
use Rattle.std.proofs.Common.{◌≡◌, ℕ, zero, suc, ◌+◌, ◌-◌, List, [], ◌∷◌, length, take, drop, refl, ap, arith, sym, ◌∙◌}
use Rattle.std.specs.List.{slice_get, copy_within}
use Rattle.std.proofs.lemmas.List.{drop-map, length-drop, take_all, take-append-le}
use Rattle.ch_lists.specs.declared.place.Place.{Place}
use Rattle.ch_lists.specs.Places.{values_at, lists_at, ArePlaces}

-- the element at i after the first n is the element at n + i
get-drop : {X : Type 0} (n : ℕ) (xs : List X) (i : ℕ) → slice_get (drop n xs) i ≡ slice_get xs (n + i)
get-drop zero xs i = ap (slice_get xs) (sym zero_first)
  where
    zero_first : 0 + i ≡ i
    zero_first = omega arith
get-drop (suc n) [] i = refl
get-drop (suc n) (x ∷ xs) i = get-drop n xs i ∙ ap (slice_get (x ∷ xs)) next
  where
    next : suc (n + i) ≡ suc n + i
    next = omega arith

-- the remaining places are places of lists
pub skipped_places : (places : List Place) (n size : ℕ) → ArePlaces places size → ArePlaces (drop n places) size
skipped_places places n size are = record {
  few = omega (arith, length-drop n places, are.few);
  small = are.small;
  fits = λ i p at. are.fits (n + i) p (sym (get-drop n places i) ∙ at);
  within = λ i p at. are.within (n + i) p (sym (get-drop n places i) ∙ at);
  apart = λ i j p q at_i at_j differ. are.apart (n + i) (n + j) p q (sym (get-drop n places i) ∙ at_i)
      (sym (get-drop n places j) ∙ at_j) (λ e. differ (omega arith));
}

-- the remaining lists, at the remaining places
pub skipped_lists : {X : Type 0} (values : List X) (places left : List Place) (lists : List (List X)) (n : ℕ) →
    lists_at values places ≡ lists → left ≡ drop n places → lists_at values left ≡ drop n lists
skipped_lists values places left lists n are is = ap (lists_at values) is ∙ sym (drop-map (values_at values) n places) ∙ ap (drop n) are

-- copying the elements after the first n to the front, and cutting the rest off, drops the first n
pub moved_to_front : {X : Type 0} (xs : List X) (n size : ℕ) → size ≡ length xs → take (size - n) (copy_within xs n size 0) ≡ drop n xs
moved_to_front xs n size is =
    let rest = length-drop n xs in
    let whole : take (size - n) (drop n xs) ≡ drop n xs = take_all (size - n) (drop n xs) (omega arith) in
    take-append-le (size - n) (take (size - n) (drop n xs)) (drop (0 + (size - n)) xs) (omega (arith, ap length whole))
    ∙ ap (take (size - n)) whole ∙ whole
