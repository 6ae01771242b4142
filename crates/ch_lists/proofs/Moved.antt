-- Lists moved to the front of their array, one after the other.
use Rattle.std.proofs.Common.{◌≡◌, ◌≢◌, ◌⊎◌, ℕ, ◌+◌, ◌-◌, ◌<◌, ◌≤◌, inl, inr, ⊎_elim, List, length, take, set, get_or, Some, refl}
use Rattle.std.proofs.Common.{ap, arith, sym, ◌∙◌, subst}
use Rattle.std.specs.Prelude.{AllPairs}
use Rattle.std.specs.List.{slice_get, SameBelow, SameFrom, CopiedTo}
use Rattle.std.specs.List.Sorted.{IsNonDecreasingBy}
use Rattle.std.proofs.lemmas.Bool.{cases_lt}
use Rattle.std.proofs.lemmas.List.{length-map, length-set, length-take-le, get_or-take, get_or-map, same_lists}
use Rattle.std.proofs.lemmas.Option.{slice_get_within, slice_get_read, slice_get-get_or, get_or_from_slice_get}
use Rattle.ch_lists.specs.declared.place.Place.{Place}
use Rattle.ch_lists.specs.Places.{values_at, lists_at, AreApart, ArePlaces}
use Rattle.ch_lists.specs.Packing.{nowhere, IsReady, IsMovedUpTo, ArePacked}
use Rattle.ch_lists.proofs.Found.{cases, one, found, get-set_same, get-set_other, same_values, length-values_at, get_or-values_at}
use Rattle.ch_lists.proofs.Placed.{set_places}

-- the start of an entry's list, as the code reads it
read_start : (entries : List (ℕ × ℕ)) (j : ℕ) (e d : ℕ × ℕ) → slice_get entries j ≡ Some e → (get_or entries j d).0 ≡ e.0
read_start entries j e d is = ap (λ (f : ℕ × ℕ). f.0) (get_or_from_slice_get entries j e d is)

-- the number of an entry's list, as the code reads it
read_list : (entries : List (ℕ × ℕ)) (j : ℕ) (e d : ℕ × ℕ) → slice_get entries j ≡ Some e → (get_or entries j d).1 ≡ e.1
read_list entries j e d is = ap (λ (f : ℕ × ℕ). f.1) (get_or_from_slice_get entries j e d is)

-- before the first move, no list has moved
pub none_moved : (places : List Place) (size : ℕ) (entries : List (ℕ × ℕ)) → IsReady places size entries → IsMovedUpTo places entries 0 0
none_moved places size entries ready = record {
  ahead = λ j e _ at.
      let low = slice_get_within entries j e at in
      ((ready.order.listed.entry e (j, low, get_or_from_slice_get entries j e e at)).0, omega arith);
  each = λ i p is. cases p.len 0
      (λ none. inl (let w = ready.empty i p is none in subst (λ (s : Place). s.start + s.room ≤ 0) (sym w) (omega arith)))
      (λ some. inr (
      let low = slice_get_within places i p is in
      let has = ready.order.listed.each i p low is (omega arith) in
      (has.0, (p.start, i), omega arith, slice_get_read entries (length entries) has.0 (p.start, i) refl has.1 (sym has.2), refl)));
  filled = λ x low. absurd (omega arith);
}

module _ (places : List Place) (entries : List (ℕ × ℕ)) (k end : ℕ) (moved : IsMovedUpTo places entries k end)
    (low : k < length entries) where
  -- the list that moves next
  abbrev pub next : ℕ × ℕ
  next = get_or entries k (0, 0)

  -- its entry is found in the order
  pub next_here : slice_get entries k ≡ Some next
  next_here = slice_get-get_or entries k (0, 0) low

  -- its number is below the number of places
  pub next_within : next.1 < length places
  next_within = let w = moved.ahead k next (omega arith) next_here in slice_get_within places next.1 w.0.0 w.0.1

  -- its place
  abbrev pub next_place : Place
  next_place = get_or places next.1 nowhere

  -- its place is found
  pub next_at : slice_get places next.1 ≡ Some next_place
  next_at = slice_get-get_or places next.1 nowhere next_within

  -- its start is at least `end`, and it is within the array
  pub next_stands : (size : ℕ) → ArePlaces places size → (end ≤ next_place.start) × (next_place.start + next_place.len ≤ size)
  next_stands size are =
      let w = moved.ahead k next (omega arith) next_here in
      let start = ap (λ (s : Place). s.start) (one places next.1 next.1 w.0.0 next_place refl w.0.1 next_at) in
      let from = w.0.2 in
      let to = w.1 in
      let fits = are.fits next.1 next_place next_at in
      let within = are.within next.1 next_place next_at in
      (omega arith, omega arith)

-- the lists are the same if each list is
lists_same : {X : Type 0} (old new : List X) (was now : List Place) → length now ≡ length was
    → ((i : ℕ) (p q : Place) → slice_get was i ≡ Some p → slice_get now i ≡ Some q → values_at new q ≡ values_at old p) →
    lists_at new now ≡ lists_at old was
lists_same old new was now long same =
    let m = length-map now (values_at new) in
    let n = length-map was (values_at old) in
    same_lists (lists_at new now) (lists_at old was) (omega arith) (λ k d low.
    let below : k < length now = omega arith in
    let within : k < length was = omega arith in
    get_or-map (values_at new) now k nowhere d below
    ∙ same k (get_or was k nowhere) (get_or now k nowhere) (slice_get-get_or was k nowhere within) (slice_get-get_or now k nowhere below)
    ∙ sym (get_or-map (values_at old) was k nowhere d within))

module _ {X : Type 0} (old new : List X) (places : List Place) (entries : List (ℕ × ℕ)) (k end : ℕ) (e : ℕ × ℕ) (p : Place)
    (are : ArePlaces places (length old)) (moved : IsMovedUpTo places entries k end) (once : AllPairs (λ a b. a.1 ≢ b.1) entries)
    (rising : IsNonDecreasingBy (λ f. f.0) entries)
    (here : slice_get entries k ≡ Some e) (at : slice_get places e.1 ≡ Some p) where
  -- the new place of the list
  abbrev pub moved_to : Place
  moved_to = record { start = end; len = p.len; room = p.len }

  -- the list that moves next starts at `end` or after it
  stands : (p.start ≡ e.0) × (0 < p.len) × (end ≤ p.start)
  stands =
      let w = moved.ahead k e (omega arith) here in
      let same = one places e.1 e.1 w.0.0 p refl w.0.1 at in
      let start = ap (λ (s : Place). s.start) same in
      let len = ap (λ (s : Place). s.len) same in
      let a = w.0.2 in
      let b = w.0.3 in
      let c = w.1 in
      (omega arith, omega arith, omega arith)

  -- each other list has moved already, or is behind this list
  others : (i : ℕ) (q : Place) → slice_get places i ≡ Some q → i ≢ e.1 → (q.start + q.room ≤ end) ⊎ (p.start + p.room ≤ q.start)
  others i q is differ = ⊎_elim inl (λ w.
      let f = moved.ahead w.0 w.1 w.2 w.3 in
      let same = one places w.1.1 i f.0.0 q w.4 f.0.1 is in
      let start = ap (λ (s : Place). s.start) same in
      let len = ap (λ (s : Place). s.len) same in
      let low = slice_get_within entries w.0 w.1 w.3 in
      let up = rising k w.0 e w.2 low in
      let from = read_start entries k e e here in
      let to = read_start entries w.0 w.1 e w.3 in
      let a = f.0.2 in
      let b = f.0.3 in
      let fits = are.fits i q is in
      let s = stands.0 in
      ⊎_elim (λ v. absurd (omega arith)) inr (are.apart i e.1 q p is at differ))
      (moved.each i q is)

  -- the new room does not overlap that of another list
  free : (i : ℕ) (q : Place) → slice_get places i ≡ Some q → i ≢ e.1 → AreApart moved_to q
  free i q is differ =
      let fits = are.fits e.1 p at in
      let s = stands.2 in
      ⊎_elim inr (λ w. inl (omega arith)) (others i q is differ)

  module _ (long : length new ≡ length old) (copied : CopiedTo old new p.start end p.len) (below : SameBelow old new end)
      (above : SameFrom old new (end + p.len)) where
    -- the new place is within the array
    pub within_after : end + p.len ≤ length new
    within_after =
        let fits = are.fits e.1 p at in
        let within = are.within e.1 p at in
        let s = stands.2 in
        omega arith

    -- the places after the list has moved are places of lists
    pub places_after : ArePlaces (set places e.1 moved_to) (length new)
    places_after = set_places places e.1 (length old) (length new) moved_to are (omega arith) (omega (arith, are.small))
        (omega arith) within_after free

    -- the list has the same values at its new place
    same_here : values_at new moved_to ≡ values_at old p
    same_here =
        let fits = are.fits e.1 p at in
        let within = are.within e.1 p at in
        let n = length-values_at new moved_to within_after in
        let o = length-values_at old p (omega arith) in
        same_lists (values_at new moved_to) (values_at old p) (n ∙ sym o) (λ j d low.
        let here : j < p.len = omega arith in
        get_or-values_at new moved_to j d here
        ∙ copied (end + j) d (omega arith) (omega arith)
        ∙ ap (λ i. get_or old i d) (let e : p.start + (end + j - end) ≡ p.start + j = omega arith in e)
        ∙ sym (get_or-values_at old p j d here))

    -- each other list has the same values at its place
    same_other : (i : ℕ) (q : Place) → slice_get places i ≡ Some q → i ≢ e.1 → values_at new q ≡ values_at old q
    same_other i q is differ =
        let fits = are.fits i q is in
        let within = are.within i q is in
        let fits_here = are.fits e.1 p at in
        let s = stands.2 in
        same_values old new q (omega arith) (omega arith) (λ j d from to. ⊎_elim
        (λ w. below j d (omega arith))
        (λ w. above j d (omega arith))
        (others i q is differ))

    -- the lists are the same after the list has moved
    pub lists_after : lists_at new (set places e.1 moved_to) ≡ lists_at old places
    lists_after = lists_same old new places (set places e.1 moved_to) (length-set places e.1 moved_to) (λ i q r is now. ⊎_elim
        (λ w. ap (values_at new) w.1 ∙ same_here ∙ ap (values_at old) (sym (one places i e.1 q p w.0 is at)))
        (λ w. ap (values_at new) (one places i i r q refl w.1 is) ∙ same_other i q is w.0)
        (found places e.1 i moved_to r now))

    -- one more list has moved
    pub moved_after : IsMovedUpTo (set places e.1 moved_to) entries (k + 1) (end + p.len)
    moved_after = record {
      ahead = λ j f from is.
          let w = moved.ahead j f (omega arith) is in
          let low = slice_get_within entries j f is in
          let apart = once k j e (omega arith) low in
          let a = read_list entries k e e here in
          let b = read_list entries j f e is in
          let differ : f.1 ≢ e.1 = (λ same. apart (a ∙ sym same ∙ sym b)) in
          let start = w.0.2 in
          let some = w.0.3 in
          let end_at = w.1 in
          let fits = are.fits f.1 w.0.0 w.0.1 in
          let fits_here = are.fits e.1 p at in
          let s = stands.2 in (
            (w.0.0, get-set_other places e.1 f.1 moved_to differ ∙ w.0.1, start, some),
            ⊎_elim (λ v. absurd (omega arith)) (λ v. omega arith) (others f.1 w.0.0 w.0.1 differ),
          );
      each = λ i q is. ⊎_elim
          (λ w. inl (subst (λ (s : Place). s.start + s.room ≤ end + p.len) (sym w.1) (omega arith)))
          (λ w. ⊎_elim
          (λ v. inl (omega arith))
          (λ v. inr (
            v.0,
            v.1,
            (
                let e : v.0 ≢ k = (λ same. w.0 (sym v.4 ∙ ap (λ (g : ℕ × ℕ). g.1) (one entries v.0 k v.1 e same v.3 here))) in
                let f = v.2 in omega arith),
            v.3,
            v.4,
          ))
          (moved.each i q w.1))
          (found places e.1 i moved_to q is);
      filled = λ x low. ⊎_elim
          (λ (before : x < end).
          let w = moved.filled x before in
          let from = w.3 in
          let to = w.4 in
          let s = stands.2 in
          let differ : w.0 ≢ e.1 = (λ same.
          let start = ap (λ (s : Place). s.start) (one places w.0 e.1 w.1 p same w.2 at) in
          absurd (omega arith)) in
          (w.0, w.1, get-set_other places e.1 w.0 moved_to differ ∙ w.2, from, to))
          (λ (from : end ≤ x).
          let inside = slice_get_within places e.1 p at in
          (e.1, moved_to, get-set_same places e.1 moved_to inside, from, low))
          (cases_lt x end);
    }

-- after the last move, all lists are at the front of the array
pub all_moved : {X : Type 0} (old new : List X) (was now : List Place) (entries : List (ℕ × ℕ)) (end : ℕ) →
    ArePlaces now (length new) → lists_at new now ≡ lists_at old was
    → IsMovedUpTo now entries (length entries) end → end ≤ length new → ArePacked old (take end new) was now
all_moved old new was now entries end are same moved within =
    let long = length-take-le end new within in
    record {
      placed = record {
        few = are.few;
        small = omega (arith, are.small);
        fits = are.fits;
        within = λ i p is. let b = below i p is in omega arith;
        apart = are.apart;
      };
      same = lists_same new (take end new) now now refl (λ i p q is at.
          let fits = are.fits i p is in
          let b = below i p is in
          ap (values_at (take end new)) (one now i i q p refl at is)
          ∙ sym (same_values (take end new) new p (omega arith) (omega arith) (λ j d from to. sym (get_or-take end new j d (omega arith)))))
          ∙ same;
      filled = λ x low. moved.filled x (omega arith);
    }
  where
    below : (i : ℕ) (p : Place) → slice_get now i ≡ Some p → p.start + p.room ≤ end
    below i p is = ⊎_elim (λ w. w) (λ w. let a = slice_get_within entries w.0 w.1 w.3 in let b = w.2 in absurd (omega arith))
        (moved.each i p is)
