-- Lists that are taken apart item by item, and lists that grow.
use Rattle.std.proofs.Common.{All, append-nil, slice_index_or, append_assoc, ◌∙◌, ◌≡◌, ℕ, ◌+◌, ◌<◌, List, [], ◌∷◌, ◌++◌, length}
use Rattle.std.proofs.Common.{map, ap, subst, sym, refl, arith, length-append}
use Rattle.std.proofs.lemmas.List.{get_or_append_left}
use mathlib.Core.Logic.{dite}
use native.Mathlib.Decide.{dec_lt}

module _ {A : Type 0} where
  -- the item after the first items of a list
  pub item_here : (xs ys : List A) (x : A) (zs : List A) (d : A) → zs ≡ xs ++ x ∷ ys → slice_index_or zs (length xs) d ≡ x
  item_here [] ys x zs d e = rw e refl
  item_here (y ∷ xs) ys x zs d e = rw e (item_here xs ys x (xs ++ x ∷ ys) d refl)

  -- its place is within the list
  pub item_within : (xs ys : List A) (x : A) (zs : List A) → zs ≡ xs ++ x ∷ ys → length xs < length zs
  item_within xs ys x zs e = rw e (omega (arith, length-append xs (x ∷ ys)))

  -- a property of each place holds of an item at its place
  pub item_has : (Q : ℕ → A → Type 0) (zs : List A) (n : ℕ) → length zs ≡ n → ((i : ℕ) (d : A) → i < n → Q i (slice_index_or zs i d)) →
      (xs ys : List A) (x : A) → zs ≡ xs ++ x ∷ ys → Q (length xs) x
  item_has Q zs n len each xs ys x e =
      subst (Q (length xs)) (item_here xs ys x zs x e) (each (length xs) x (omega (arith, len, item_within xs ys x zs e)))

  -- the rest of a list begins with the next item
  pub next_split : (zs xs rest : List A) (x : A) (ys : List A) → zs ≡ xs ++ rest → rest ≡ x ∷ ys → zs ≡ xs ++ x ∷ ys
  next_split zs xs rest x ys e f = rw (e, f) refl

  -- once the next item is taken, it is the last of the items that are taken
  pub next_done : (zs xs ys : List A) (x : A) → zs ≡ xs ++ x ∷ ys → zs ≡ (xs ++ x ∷ []) ++ ys
  next_done zs xs ys x e = e ∙ sym (append_assoc xs (x ∷ []) ys)

  -- once no item is left, all are taken
  pub all_done : (zs xs rest : List A) → zs ≡ xs ++ rest → length rest ≡ 0 → zs ≡ xs
  all_done zs xs [] e none = e ∙ append-nil xs
  all_done zs xs (y ∷ ys) e none = absurd (omega arith)

  -- a property of all items holds of one item
  pub all_at : (P : A → Type 0) (zs : List A) → All P zs → (xs ys : List A) (x : A) → zs ≡ xs ++ x ∷ ys → P x
  all_at P zs all xs ys x e = subst P (item_here xs ys x zs x e) (all (length xs) x (item_within xs ys x zs e))

module _ {A : Type 0} (Q : ℕ → A → Type 0) where
  -- one more item, when a relation holds of each item and its place
  pub each_push : (xs : List A) (n : ℕ) (x : A) → length xs ≡ n → ((j : ℕ) (d : A) → j < n → Q j (slice_index_or xs j d)) → Q n x →
      (j : ℕ) (d : A) → j < n + 1 → Q j (slice_index_or (xs ++ x ∷ []) j d)
  each_push xs n x len each mine j d lt = dite (dec_lt j n)
      (λ l. subst (λ (y : A). Q j y) (sym (get_or_append_left xs (x ∷ []) d j (omega arith))) (each j d l))
      (λ ge. let e : length xs ≡ j = omega arith in
      subst (λ (y : A). Q j y)
      (sym (item_here xs [] x (xs ++ x ∷ []) d refl) ∙ ap (λ (m : ℕ). slice_index_or (xs ++ x ∷ []) m d) e)
      (let e' : n ≡ j = omega arith in subst (λ (m : ℕ). Q m x) e' mine))

module _ {A B : Type 0} (f : A → B) where
  -- the map of a list with one more item
  pub map_push : (xs : List A) (x : A) → map f (xs ++ x ∷ []) ≡ map f xs ++ f x ∷ []
  map_push [] x = refl
  map_push (y ∷ ys) x = ap (λ (l : List B). f y ∷ l) (map_push ys x)
