-- A list that is read at its place, and all lists after an edit of it.
use Rattle.std.proofs.Common.{◌≡◌, ℕ, ◌<◌, List, [], length, set, get_or, Some, refl, ap, arith, sym, ◌∙◌}
use Rattle.std.specs.List.{slice_get}
use Rattle.std.proofs.lemmas.List.{length-map, get_or-map, set-get_or}
use Rattle.std.proofs.lemmas.Option.{slice_get_read}
use Rattle.ch_lists.specs.declared.place.Place.{Place}
use Rattle.ch_lists.specs.Places.{values_at, lists_at, ArePlaces, HasEdited}
use Rattle.ch_lists.proofs.Edited.{places_after, lists_after}

module _ {X : Type 0} (values : List X) (places : List Place) (lists : List (List X)) (i : ℕ) (p : Place)
    (are : lists_at values places ≡ lists) (low : i < length lists) (is : p ≡ get_or places i p) where
  -- each list has a place
  within : i < length places
  within = omega (arith, ap length are, length-map places (values_at values))

  -- the place that was read is found in the places
  pub place_read : slice_get places i ≡ Some p
  place_read = slice_get_read places (length places) i p refl within is

  -- the list consists of the values at its place
  pub list_read : get_or lists i [] ≡ values_at values p
  list_read =
      ap (λ (ls : List (List X)). get_or ls i []) (sym are) ∙ get_or-map (values_at values) places i p [] within
      ∙ ap (values_at values) (sym is)

  module _ (placed : ArePlaces places (length values)) (new : List X) (now : Place) (change : List X → List X)
      (edit : HasEdited values new p now (change (values_at values p))) where
    -- the places after an edit of the list are places of lists
    pub edited_places : ArePlaces (set places i now) (length new)
    edited_places = places_after values new places i p now (change (values_at values p)) place_read placed edit

    -- the lists after an edit of the list
    pub edited_lists : lists_at new (set places i now) ≡ set lists i (change (get_or lists i []))
    edited_lists =
        lists_after values new places i p now (change (values_at values p)) place_read placed edit
        ∙ ap (λ (ls : List (List X)). set ls i (change (values_at values p))) are
        ∙ ap (λ (xs : List X). set lists i (change xs)) (sym list_read)

  -- an edit of the list at its own place leaves the places as they are
  pub same_places : set places i p ≡ places
  same_places = ap (set places i) is ∙ set-get_or places i p
