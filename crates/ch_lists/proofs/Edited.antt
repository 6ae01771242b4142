-- An edit of one list leaves the others as they are.
use Rattle.std.proofs.Common.{◌≡◌, ◌≢◌, ℕ, ◌<◌, inl, inr, List, length, set, get_or, Some, ap, arith, sym, ◌∙◌}
use Rattle.std.specs.List.{slice_get}
use Rattle.std.proofs.lemmas.List.{length-set, length-map, get_or-map, get_or-set_same, get_or-set_other, map-set, same_lists}
use Rattle.std.proofs.lemmas.Option.{slice_get-get_or, slice_get_within}
use Rattle.std.proofs.Math.Logic.{⊎_elim}
use Rattle.ch_lists.specs.declared.place.Place.{Place}
use Rattle.ch_lists.specs.Places.{values_at, lists_at, AreApart, ArePlaces, HasEdited}
use Rattle.ch_lists.proofs.Found.{cases, same_values}
use Rattle.ch_lists.proofs.Placed.{set_places}

module _ {X : Type 0} (old new : List X) (places : List Place) (i : ℕ) (was now : Place) (values : List X)
    (at : slice_get places i ≡ Some was) (are : ArePlaces places (length old)) (edit : HasEdited old new was now values) where
  -- the list at another place stays the same
  same_other : (k : ℕ) (p : Place) → slice_get places k ≡ Some p → k ≢ i → values_at new p ≡ values_at old p
  same_other k p is differ =
      let fits = are.fits k p is in
      let within = are.within k p is in
      same_values old new p (omega arith) edit.size (λ j d from to. ⊎_elim
      (λ w. edit.below j d (omega arith))
      (λ w. edit.above j d (omega arith) (omega arith))
      (are.apart k i p was is at differ))

  -- the room of the new place does not overlap that of another list
  free : (k : ℕ) (p : Place) → slice_get places k ≡ Some p → k ≢ i → AreApart now p
  free k p is differ =
      let within = are.within k p is in
      ⊎_elim
      (λ (w : (now.start ≡ was.start) × (now.room ≡ was.room)).
      ⊎_elim (λ v. inl (omega arith)) (λ v. inr (omega arith)) (are.apart i k was p at is (λ e. differ (sym e))))
      (λ w. inr (omega arith))
      edit.room

  -- the places after the edit are places of lists in the new array
  pub places_after : ArePlaces (set places i now) (length new)
  places_after = set_places places i (length old) (length new) now are edit.size edit.small edit.fits edit.within free

  -- only this list has changed
  pub lists_after : lists_at new (set places i now) ≡ set (lists_at old places) i values
  lists_after =
      let found = slice_get_within places i was at in
      let n = length-map places (values_at new) in
      let o = length-map places (values_at old) in
      map-set (values_at new) places i now
      ∙ ap (set (lists_at new places) i) edit.edited
      ∙ same_lists (set (lists_at new places) i values) (set (lists_at old places) i values)
      (omega (arith, length-set (lists_at new places) i values, length-set (lists_at old places) i values))
      (λ k d low.
      let wide = length-set (lists_at new places) i values in
      let within : k < length places = omega arith in
      cases k i
      (λ e. rw e (get_or-set_same (lists_at new places) i values d (omega arith)
      ∙ sym (get_or-set_same (lists_at old places) i values d (omega arith))))
      (λ differ. get_or-set_other (lists_at new places) i k values d differ
      ∙ get_or-map (values_at new) places k was d within
      ∙ same_other k (get_or places k was) (slice_get-get_or places k was within) differ
      ∙ sym (get_or-map (values_at old) places k was d within)
      ∙ sym (get_or-set_other (lists_at old places) i k values d differ)))
