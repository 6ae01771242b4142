-- The first of the requests that came together.
use Rattle.std.proofs.Common.{◌≡◌, ℕ, ◌<◌, Bool, true, false, List, [], ◌∷◌, length, drop, map, get_or, drop-cons}
use Rattle.std.proofs.Common.{Option, Some, None, refl, sym, ap, ◌∙◌, subst, arith}
use Rattle.std.specs.Prelude.{All}
use Rattle.std.specs.List.{flat_map, zip}
use Rattle.std.proofs.Math.ListN.{get_or-map}
use Rattle.std.proofs.lemmas.List.{length-map, append-nil}
use Rattle.std.proofs.lemmas.List.Elements.{All-take}
use Rattle.ch_graph.specs.Graph.{Network, IsWithinLimits}
use Rattle.ch_hierarchy.specs.Kept.{IsKept}
use Rattle.ch_rows.proofs.GraphRows.{row_of_graph}
use Rattle.ch_hierarchy.specs.Direction.{facing}
use Rattle.ch_hierarchy.specs.Hierarchy.{LevelsAndLegs}
use Rattle.ch_hierarchy.specs.declared.direction.Direction.{Direction}
use Rattle.ch_rows.specs.Near.{IsNearRow, IsNearestRow, Wanted, wanted_within}
use Rattle.ch_read.specs.declared.request.Request.{Request}
use Rattle.ch_read.specs.RequestLists.{PlaceList}
use Rattle.ch_read.specs.Requests.{IsRequest}
use Rattle.ch_job.specs.declared.options.Options.{Options}
use Rattle.ch_run.specs.Ask.{AreAnswered, IsRequestText, IsTextOfRequest, TextOf, limit_of, no_places, places_after, places_then}
use Rattle.ch_run.specs.NearRows.{HasNearRows}
use Rattle.ch_text.specs.NearText.{near_row_text}
use Rattle.ch_run.specs.Serving.{AnswersFirst, AreFirstOf, asked_for, near_row_of, places_of}
use Rattle.ch_run.proofs.Answered.{each_answered}

-- requests are their first one and the rest
pub front : (requests : List Request) (d r : Request) → 0 < length requests → get_or requests 0 d ≡ r → requests ≡ r ∷ drop 1 requests
front requests d r some is = drop-cons requests 0 d some ∙ ap (λ (first : Request). first ∷ drop 1 requests) is

module _ {A : Type 0} {from : A → Request} {requests : List Request} {values : List A} (first : AreFirstOf from requests values) where
  -- a property of the requests of these values holds of the values
  pub values_within : (n : ℕ) (P : A → Type 0) → ((v : A) → IsRequest n (from v) → P v) → All (IsRequest n) requests → All P values
  values_within n P so each k d lt =
      let made : All (IsRequest n) (map from values) =
      subst (All (IsRequest n)) (sym first.are) (All-take (IsRequest n) (length values) requests each) in
      so (get_or values k d) (subst (IsRequest n) (get_or-map from values k d) (made k (from d) (omega (arith, length-map values from))))

  -- requests that give no places keep those before
  places_stay : ((places : PlaceList) (v : A) → places_then places (from v) ≡ places) → (places : PlaceList) (vs : List A) →
      places_after places (map from vs) ≡ places
  places_stay stay places [] = refl
  places_stay stay places (v ∷ vs) = ap (λ (p : PlaceList). places_after p (map from vs)) (stay places v) ∙ places_stay stay places vs

  -- a text of the requests of these values answers the first of the requests
  pub first_answered : {IsTextOf : TextOf} {before after : PlaceList} {text : List ℕ} {count : ℕ} →
      ((places : PlaceList) (v : A) → places_then places (from v) ≡ places) → count ≡ length values → after ≡ before →
      AreAnswered IsTextOf before (map from values) text → AnswersFirst IsTextOf before after requests text count
  first_answered {before = before} stay count_is same answers = rw count_is (record {
    some = first.some;
    few = first.few;
    answers = rw (← first.are) answers;
    places = rw (← first.are) (same ∙ sym (places_stay stay before values));
  })

-- a query asks for nodes of the graph
pub asked_within : (n : ℕ) (routed : Bool) (pair : ℕ × ℕ) → IsRequest n (asked_for routed pair) → (pair.0 < n) × (pair.1 < n)
asked_within n true pair is = is
asked_within n false pair is = is

-- a request that is answered alone
pub one_answered : {IsTextOf : TextOf} {places : PlaceList} (r : Request) {rest : List Request} {text : List ℕ} → IsTextOf places r text →
    AnswersFirst IsTextOf places (places_then places r) (r ∷ rest) text 1
one_answered r {text = text} is =
    record { some = omega arith; few = omega arith; answers = (text, [], sym (append-nil text), is, refl); places = refl }

-- without places, a near row is empty
no_row : (g : Network) (direction : Direction) (limit : Option ℕ) (s : ℕ) → IsNearestRow g direction limit None [] s []
no_row g direction limit s = record {
  order = λ i j d less within. absurd (omega arith);
  few = tt;
  sound = λ e c. absurd (omega arith);
  whole = λ e is. let below = is.0 in absurd (omega arith);
}

pub none_near : (options : Options) (g : Network) (From : LevelsAndLegs → Type 0) (s : ℕ) (within : Option ℕ) (text : List ℕ) →
    text ≡ near_row_text [] (s, []) → IsRequestText options g From no_places (near_row_of within s) text
none_near options g From s within text is =
    ([] ∷ [], (no_row g options.direction _ s, tt), is ∙ sym (append-nil (near_row_text [] (s, []))))

-- near rows in the searched hierarchy are those of the graph
pub near_answered : (options : Options) (g : Network) (H : LevelsAndLegs) → IsWithinLimits g → IsKept g H →
    (within : Option ℕ) (near : Wanted) → near.hierarchy ≡ facing options.direction H → (sources text : List ℕ) →
    HasNearRows (wanted_within near (limit_of options within)) sources text →
    AreAnswered (IsTextOfRequest options g H) (places_of (Some near)) (map (near_row_of within) sources) text
near_answered options g H limits kept within near same sources text h =
    let limit = limit_of options within in
    let nodes = near.targets in
    each_answered (IsTextOfRequest options g H) (near_row_of within) (places_of (Some near)) (λ s. refl)
    (IsNearRow near.hierarchy limit near.count nodes) (λ s row. near_row_text nodes (s, row))
    (λ s row is. (
      row ∷ [],
      (
        row_of_graph g H options.direction limit near.count nodes s row limits kept
            (subst (λ (K : LevelsAndLegs). IsNearRow K limit near.count nodes s row) same is),
        tt,
      ),
      sym (append-nil (near_row_text nodes (s, row))),
    ))
    (λ sources rows. flat_map (near_row_text nodes) (zip sources rows)) refl (λ s row sources rows. refl) sources h.0 text h.1 h.2
