-- Empty lists that are given the place without room.
use Rattle.std.proofs.Common.{◌≡◌, ◌⊎◌, ℕ, option_map, ◌+◌, ◌<◌, ◌≤◌, inl, inr, ⊎_elim, List, [], ◌∷◌, map, get_or, Some, refl, ap}
use Rattle.std.proofs.Common.{ap₂, arith, sym, ◌∙◌, subst}
use Rattle.std.specs.List.{slice_get}
use Rattle.std.specs.Prelude.{Contains}
use Rattle.std.proofs.lemmas.Bool.{ne_eqb}
use Rattle.std.proofs.lemmas.List.{length-map}
use Rattle.std.proofs.lemmas.Option.{same_Some, slice_get-map, slice_get_within, slice_get-get_or}
use Rattle.ch_lists.specs.declared.place.Place.{Place}
use Rattle.ch_lists.specs.Places.{values_at, lists_at, AreApart, ArePlaces}
use Rattle.ch_lists.specs.Packing.{nowhere, closed, AreInOrder, IsReady, ArePacked}
use Rattle.ch_lists.proofs.Found.{cases}
use Rattle.ch_lists.proofs.Placed.{apart_back, apart_nowhere}

-- a place of a list that is not empty stays, and that of an empty list becomes the place without room
closed_is : (p : Place) → ((0 < p.len) × (closed p ≡ p)) ⊎ ((p.len ≡ 0) × (closed p ≡ nowhere))
closed_is p = cases p.len 0
    (λ none. inr (none, rw none refl))
    (λ some. inl (omega arith, rw (ne_eqb p.len 0 some) refl))

module _ (places : List Place) where
  -- a property of the place without room and of the places of lists that are not empty holds of each of these places
  closed_from : (P : Place → Type 0) (i : ℕ) (q : Place) → slice_get (map closed places) i ≡ Some q → P nowhere →
      ((p : Place) → slice_get places i ≡ Some p → 0 < p.len → P p) → P q
  closed_from P i q is none some =
      let low = slice_get_within (map closed places) i q is in
      let long = length-map places closed in
      let at = slice_get-get_or places i q (omega arith) in
      let p = get_or places i q in
      let found : slice_get (map closed places) i ≡ Some (closed p) = slice_get-map closed places i ∙ ap (option_map closed) at in
      let same : closed p ≡ q = same_Some (closed p) q (sym found ∙ is) in
      ⊎_elim
      (λ w. subst P (sym w.1 ∙ same) (some p at w.0))
      (λ w. subst P (sym w.1 ∙ same) none)
      (closed_is p)

  -- the place of a list that is not empty stays the same
  closed_found : (i : ℕ) (p : Place) → slice_get places i ≡ Some p → 0 < p.len → slice_get (map closed places) i ≡ Some p
  closed_found i p at full =
      slice_get-map closed places i ∙ ap (option_map closed) at
      ∙ ap Some (⊎_elim (λ w. w.1) (λ w. absurd (omega (arith, w.0))) (closed_is p))

  -- these places are places of lists in the same array
  closed_places : (size : ℕ) → ArePlaces places size → ArePlaces (map closed places) size
  closed_places size are = record {
    few = omega (arith, length-map places closed, are.few);
    small = are.small;
    fits = λ i q is. closed_from (λ s. s.len ≤ s.room) i q is (omega arith) (λ p at full. are.fits i p at);
    within = λ i q is. closed_from (λ s. s.start + s.room ≤ size) i q is (omega arith) (λ p at full. are.within i p at);
    apart = λ i j p q at_i at_j differ. closed_from (λ s. AreApart s q) i p at_i (apart_nowhere q)
        (λ r at_r _. closed_from (λ s. AreApart r s) j q at_j (apart_back nowhere r (apart_nowhere r))
        (λ s at_s _. are.apart i j r s at_r at_s differ));
  }

  -- with these places the lists can be moved together
  pub closed_ready : (size : ℕ) (entries : List (ℕ × ℕ)) → ArePlaces places size → AreInOrder places entries →
      IsReady (map closed places) size entries
  closed_ready size entries are order = record {
    placed = closed_places size are;
    order = record {
      listed = record {
        entry = λ e has. let w = order.listed.entry e has in
            ((w.0.0, closed_found e.1 w.0.0 w.0.1 w.0.3, w.0.2, w.0.3), omega (arith, length-map places closed, w.1));
        each = λ i q low is. closed_from (λ s. 0 < s.len → Contains entries (s.start, i)) i q is (λ none. absurd (omega arith))
            (λ p at full _. order.listed.each i p (omega (arith, length-map places closed)) at full);
        once = order.listed.once;
      };
      rising = order.rising;
    };
    empty = λ i q is. closed_from (λ s. s.len ≡ 0 → s ≡ nowhere) i q is (λ _. refl) (λ p at full none. absurd (omega arith));
  }

-- the lists stay the same
closed_lists : {X : Type 0} (values : List X) (places : List Place) → lists_at values (map closed places) ≡ lists_at values places
closed_lists values [] = refl
closed_lists values (p ∷ ps) = ap₂ (λ xs ls. xs ∷ ls) (same p) (closed_lists values ps)
  where
    no_values : (q : Place) → q.len ≡ 0 → values_at values nowhere ≡ values_at values q
    no_values q is = rw is refl

    same : (q : Place) → values_at values (closed q) ≡ values_at values q
    same q = ⊎_elim (λ w. ap (values_at values) w.1) (λ w. ap (values_at values) w.1 ∙ no_values q w.0) (closed_is q)

-- lists that were moved together from these places were moved together from the places before
pub packed_from : {X : Type 0} (old new : List X) (places was now : List Place) → was ≡ map closed places → ArePacked old new was now →
    ArePacked old new places now
packed_from old new places was now same are = record {
  placed = are.placed;
  same = are.same ∙ ap (lists_at old) same ∙ closed_lists old places;
  filled = are.filled;
}
