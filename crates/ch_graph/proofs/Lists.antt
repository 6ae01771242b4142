-- Members of lists, of maps and of filters, and lists whose elements are related in order.
use Rattle.std.proofs.Common.{◌≡◌, ℕ, zero, suc, Bool, true, false, cond, ◌<◌, List, [], ◌∷◌, ◌++◌, length, map, Contains, get_or}
use Rattle.std.proofs.Common.{refl, sym, ◌∙◌, ap, ap₂, subst, arith, inl, inr}
use Rattle.std.specs.Prelude.{◌⊎◌, AllPairs}
use Rattle.std.specs.List.{AllZip, filter}
use Rattle.std.proofs.lemmas.Bool.{false≢true}
use Rattle.std.proofs.lemmas.List.Elements.{Contains-append_cases, Contains-get_or}

-- the head is in the list
pub contains_head : {X : Type 0} (x : X) (xs : List X) → Contains (x ∷ xs) x
contains_head x xs = (zero, omega arith, refl)

-- a member of the tail is in the list
pub contains_tail : {X : Type 0} (x y : X) (xs : List X) → Contains xs x → Contains (y ∷ xs) x
contains_tail x y xs h = let lt = h.1 in (suc h.0, omega arith, h.2)

-- a member of the list is the head or in the tail
pub contains_cons : {X : Type 0} (x z : X) (xs : List X) → Contains (x ∷ xs) z → (x ≡ z) ⊎ Contains xs z
contains_cons x z xs h = at h.0 h.1 h.2
  where
    at : (k : ℕ) → k < length (x ∷ xs) → get_or (x ∷ xs) k z ≡ z → (x ≡ z) ⊎ Contains xs z
    at zero lt e = inl e
    at (suc k) lt e = inr (k, omega arith, e)

-- nothing is in the empty list
pub contains_none : {X : Type 0} (z : X) → Contains [] z → ⊥
contains_none z h = let lt = h.1 in omega arith

module _ {X : Type 0} (R : X → X → Type 0) where
  -- if each two elements are related, so are each two of the tail
  pub pairs_tail : (x : X) (xs : List X) → AllPairs R (x ∷ xs) → AllPairs R xs
  pairs_tail x xs h i j d lt within = h (suc i) (suc j) d (omega arith) (omega arith)

  -- if each two elements are related, the head is related to each element of the tail
  pub pairs_head : (x y : X) (xs : List X) → AllPairs R (x ∷ xs) → Contains xs y → R x y
  pairs_head x y xs h c = let lt = c.1 in subst (R x) c.2 (h zero (suc c.0) y (omega arith) (omega arith))

-- a new head that is related to each element keeps the list related in order
pub pairs_cons : {X : Type 0} (R : X → X → Type 0) (x : X) (xs : List X) → ((y : X) → Contains xs y → R x y) → AllPairs R xs →
    AllPairs R (x ∷ xs)
pairs_cons R x xs head tail zero zero d lt within = absurd (omega arith)
pairs_cons R x xs head tail zero (suc j) d lt within = head (get_or xs j d) (Contains-get_or xs j d (omega arith))
pairs_cons R x xs head tail (suc i) zero d lt within = absurd (omega arith)
pairs_cons R x xs head tail (suc i) (suc j) d lt within = tail i j d (omega arith) (omega arith)

module _ {X Y : Type 0} (f : X → Y) where
  -- the image of a member is in the list of images
  pub contains_map : (xs : List X) (x : X) → Contains xs x → Contains (map f xs) (f x)
  contains_map [] x h = absurd (contains_none x h)
  contains_map (y ∷ xs) x h = elim (contains_cons y x xs h) [
    | inl e ↦ subst (λ (q : X). Contains (f y ∷ map f xs) (f q)) e (contains_head (f y) (map f xs))
    | inr later ↦ contains_tail (f x) (f y) (map f xs) (contains_map xs x later)
  ]

  -- each element of the list of images is the image of a member
  pub contains_map_of : (xs : List X) (y : Y) → Contains (map f xs) y → (x : X) × Contains xs x × (f x ≡ y)
  contains_map_of [] y h = absurd (contains_none y h)
  contains_map_of (x ∷ xs) y h = elim (contains_cons (f x) y (map f xs) h) [
    | inl e ↦ (x, contains_head x xs, e)
    | inr later ↦ let r = contains_map_of xs y later in (r.0, contains_tail r.0 x xs r.1, r.2)
  ]

  -- if the images are related in order, so is the list of images
  pub pairs_map : (R : Y → Y → Type 0) (xs : List X) → AllPairs (λ a b. R (f a) (f b)) xs → AllPairs R (map f xs)
  pairs_map R [] h = λ i j d lt within. absurd (omega arith)
  pairs_map R (x ∷ xs) h = pairs_cons R (f x) (map f xs)
      (λ y c. let r = contains_map_of xs y c in subst (R (f x)) r.2 (pairs_head (λ a b. R (f a) (f b)) x r.0 xs h r.1))
      (pairs_map R xs (pairs_tail (λ a b. R (f a) (f b)) x xs h))

module _ {X : Type 0} (p : X → Bool) where
  -- a member that passes the test stays in the filtered list
  pub contains_filter : (xs : List X) (x : X) → Contains xs x → p x ≡ true → Contains (filter p xs) x
  contains_filter [] x h t = absurd (contains_none x h)
  contains_filter (y ∷ xs) x h t = at (p y) refl (contains_cons y x xs h) (λ later. contains_filter xs x later t)
    where
      at : (b : Bool) → p y ≡ b → (y ≡ x) ⊎ Contains xs x → (Contains xs x → Contains (filter p xs) x) →
          Contains (cond b (y ∷ filter p xs) (filter p xs)) x
      at true e (inl is) more = subst (Contains (y ∷ filter p xs)) is (contains_head y (filter p xs))
      at true e (inr later) more = contains_tail x y (filter p xs) (more later)
      at false e (inl is) more = absurd (false≢true (sym e ∙ ap p is ∙ t))
      at false e (inr later) more = more later

  -- a member of the filtered list was in the list, and passes the test
  pub contains_filter_of : (xs : List X) (x : X) → Contains (filter p xs) x → Contains xs x × (p x ≡ true)
  contains_filter_of [] x h = absurd (contains_none x h)
  contains_filter_of (y ∷ xs) x h = at (p y) refl h (contains_filter_of xs x)
    where
      at : (b : Bool) → p y ≡ b → Contains (cond b (y ∷ filter p xs) (filter p xs)) x →
          (Contains (filter p xs) x → Contains xs x × (p x ≡ true)) → Contains (y ∷ xs) x × (p x ≡ true)
      at true e c more = elim (contains_cons y x (filter p xs) c) [
        | inl is ↦ (subst (Contains (y ∷ xs)) is (contains_head y xs), ap p (sym is) ∙ e)
        | inr later ↦ let r = more later in (contains_tail x y xs r.0, r.1)
      ]
      at false e c more = let r = more c in (contains_tail x y xs r.0, r.1)

-- two lists that are related in order, one after the other, if each element of the first is related to each of the
-- second
pub pairs_append : {X : Type 0} (R : X → X → Type 0) (xs ys : List X) → AllPairs R xs → AllPairs R ys →
    ((x y : X) → Contains xs x → Contains ys y → R x y) → AllPairs R (xs ++ ys)
pairs_append R [] ys h k across = k
pairs_append R (x ∷ xs) ys h k across = pairs_cons R x (xs ++ ys)
    (λ y c. elim (Contains-append_cases xs ys y c) [
      | inl here ↦ pairs_head R x y xs h here
      | inr there ↦ across x y (contains_head x xs) there
    ])
    (pairs_append R xs ys (pairs_tail R x xs h) k (λ z y c d. across z y (contains_tail z x xs c) d))

module _ {X Y : Type 0} (R : X → Y → Type 0) where
  -- a relation to images is a relation to the list of images
  pub zipped_map : {Z : Type 0} (f : Z → Y) (xs : List X) (zs : List Z) → AllZip (λ x z. R x (f z)) xs zs → AllZip R xs (map f zs)
  zipped_map f [] [] h = tt
  zipped_map f [] (z ∷ zs) h = absurd h
  zipped_map f (x ∷ xs) [] h = absurd h
  zipped_map f (x ∷ xs) (z ∷ zs) h = (h.0, zipped_map f xs zs h.1)

  -- related lists are related at each place
  pub zipped_at : (xs : List X) (ys : List Y) (i : ℕ) (d : X) (e : Y) → AllZip R xs ys → i < length xs → R (get_or xs i d) (get_or ys i e)
  zipped_at [] ys i d e h lt = absurd (omega arith)
  zipped_at (x ∷ xs) [] i d e h lt = absurd h
  zipped_at (x ∷ xs) (y ∷ ys) zero d e h lt = h.0
  zipped_at (x ∷ xs) (y ∷ ys) (suc i) d e h lt = zipped_at xs ys i d e h.1 (omega arith)

  -- two lists that are related to one list are equal, if each of its elements is related to only one
  pub zipped_one : ((x : X) (y z : Y) → R x y → R x z → y ≡ z) → (xs : List X) (ys zs : List Y) → AllZip R xs ys → AllZip R xs zs → ys ≡ zs
  zipped_one one [] [] [] h k = refl
  zipped_one one [] [] (z ∷ zs) h k = absurd k
  zipped_one one [] (y ∷ ys) zs h k = absurd h
  zipped_one one (x ∷ xs) [] zs h k = absurd h
  zipped_one one (x ∷ xs) (y ∷ ys) [] h k = absurd k
  zipped_one one (x ∷ xs) (y ∷ ys) (z ∷ zs) h k = ap₂ ◌∷◌ (one x y z h.0 k.0) (zipped_one one xs ys zs h.1 k.1)

-- two relations at each place of two lists give a third, if they do for members of the first list
pub zipped_two : {X Y : Type 0} (R S T : X → Y → Type 0) (xs : List X) (ys : List Y) →
    ((x : X) (y : Y) → Contains xs x → R x y → S x y → T x y) → AllZip R xs ys → AllZip S xs ys → AllZip T xs ys
zipped_two R S T [] [] f h k = tt
zipped_two R S T [] (y ∷ ys) f h k = absurd h
zipped_two R S T (x ∷ xs) [] f h k = absurd h
zipped_two R S T (x ∷ xs) (y ∷ ys) f h k =
    (f x y (contains_head x xs) h.0 k.0, zipped_two R S T xs ys (λ z w c r s. f z w (contains_tail z x xs c) r s) h.1 k.1)

-- a relation at each place of two lists gives another, if it does for members of the first list
pub zipped_also : {X Y : Type 0} (R S : X → Y → Type 0) (xs : List X) (ys : List Y) →
    ((x : X) (y : Y) → Contains xs x → R x y → S x y) → AllZip R xs ys → AllZip S xs ys
zipped_also R S xs ys f h = zipped_two R R S xs ys (λ x y c r _. f x y c r) h h
