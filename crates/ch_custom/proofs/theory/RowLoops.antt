-- Loops over the rows of arrays.
use Rattle.std.proofs.Common.{◌≡◌, ℕ, suc, ◌+◌, ◌<◌, ◌≤◌, Bool, true, false, cond, List, [], ◌∷◌, ◌++◌, length, get_or, set, take, refl}
use Rattle.std.proofs.Common.{sym, ◌∙◌, ap, arith, get_or-set_same}
use Rattle.std.specs.Prelude.{map, filter}
use Rattle.std.specs.List.{insert}
use Rattle.std.proofs.lemmas.List.{get_or-map, length-map, ext_get_or, set-set}
use Rattle.std.proofs.lemmas.List.Edits.{insert_end}
use Rattle.std.proofs.lemmas.List.Elements.{filter-append}
use Rattle.std.proofs.Math.Seq.{take-suc}
use Rattle.ch_hierarchy.specs.declared.leg.Leg.{Leg}
use Rattle.ch_custom.specs.Opening.{is_live}

-- one more element of a prefix
pub take_more : {X : Type 0} (xs : List X) (k : ℕ) (d : X) → k < length xs → take (k + 1) xs ≡ take k xs ++ get_or xs k d ∷ []
take_more xs k d lt = let e : k + 1 ≡ suc k = omega arith in ap (λ z. take z xs) e ∙ take-suc xs k d lt

-- a row that is all changed
pub all_changed : {X : Type 0} (f : X → X) (xs ys : List X) → length ys ≡ length xs →
    ((k : ℕ) (d : X) → k < length xs → get_or ys k d ≡ f (get_or xs k d)) → ys ≡ map f xs
all_changed f [] [] size each = refl
all_changed f [] (y ∷ ys) size each = absurd (omega arith)
all_changed f (x ∷ xs) ys size each = ext_get_or x ys (map f (x ∷ xs)) (size ∙ sym (length-map (x ∷ xs) f)) (λ i lt.
    let inside : i < length (x ∷ xs) = omega arith in
    each i x inside ∙ sym (get_or-map f (x ∷ xs) i x x inside))

module _ (old now new : List (List Leg)) (node place : ℕ) (row : List Leg) (d : Leg)
    (is : now ≡ set old node (filter is_live (take place row))) (below : node < length old) (lt : place < length row) where
  -- what the list has
  has : get_or now node [] ≡ filter is_live (take place row)
  has = ap (λ z. get_or z node []) is ∙ get_or-set_same old node (filter is_live (take place row)) [] below

  -- the next leg, if it is there
  one : (b : Bool) → is_live (get_or row place d) ≡ b → filter is_live (get_or row place d ∷ []) ≡ cond b (get_or row place d ∷ []) []
  one b e = ap (λ z. cond z (get_or row place d ∷ []) []) e

  -- the legs up to the next place
  next : (b : Bool) → is_live (get_or row place d) ≡ b →
      filter is_live (take (place + 1) row) ≡ filter is_live (take place row) ++ cond b (get_or row place d ∷ []) []
  next b e = ap (filter is_live) (take_more row place d lt) ∙ filter-append is_live (take place row) (get_or row place d ∷ [])
      ∙ ap (λ z. filter is_live (take place row) ++ z) (one b e)

  -- one more leg is pushed
  pub pushed_live : (at : List Leg) → at ≡ get_or now node [] → is_live (get_or row place d) ≡ true →
      new ≡ set now node (insert (get_or now node []) (length at) (get_or row place d)) →
      new ≡ set old node (filter is_live (take (place + 1) row))
  pushed_live at whole e edited =
      edited ∙ ap (λ z. set now node (insert (get_or now node []) (length z) (get_or row place d))) whole
      ∙ ap (set now node) (insert_end (get_or now node []) (get_or row place d) ∙ ap (λ z. z ++ get_or row place d ∷ []) has
      ∙ sym (next true e))
      ∙ ap (λ z. set z node (filter is_live (take (place + 1) row))) is ∙ set-set old node _ _

  -- a place without a leg is passed over
  pub passed_live : is_live (get_or row place d) ≡ false → new ≡ now → new ≡ set old node (filter is_live (take (place + 1) row))
  passed_live e same = same ∙ is ∙ ap (set old node) (sym (next false e ∙ none (filter is_live (take place row))))
    where
      none : (xs : List Leg) → xs ++ [] ≡ xs
      none [] = refl
      none (x ∷ xs) = ap (λ z. x ∷ z) (none xs)

-- all lists are made
pub all_made : (rows lists : List (List Leg)) → length lists ≡ length rows →
    ((k : ℕ) → k < length rows → get_or lists k [] ≡ filter is_live (get_or rows k [])) → lists ≡ map (λ r. filter is_live r) rows
all_made rows lists size each =
    ext_get_or [] lists (map (λ r. filter is_live r) rows) (size ∙ sym (length-map rows (λ r. filter is_live r))) (λ i lt.
    let inside : i < length rows = omega arith in
    each i inside ∙ sym (get_or-map (λ r. filter is_live r) rows i [] [] inside))

-- the lists of the nodes before the next are made, and the others are empty
pub record AreMadeTo (rows : List (List Leg)) (node : ℕ) (lists : List (List Leg)) : Type 0 where
  pub size : length lists ≡ length rows
  pub made : (k : ℕ) → k < node → k < length rows → get_or lists k [] ≡ filter is_live (get_or rows k [])
  pub empty : (k : ℕ) → node ≤ k → get_or lists k [] ≡ []
