-- Lists in strict order, and lists of different numbers.
use Rattle.std.proofs.Common.{◌≡◌, ℕ, zero, true, false, Bool, eqb, ◌||◌, ◌<◌, ◌≤◌, List, [], ◌∷◌, ◌++◌, length, get_or, refl, sym}
use Rattle.std.proofs.Common.{◌∙◌, subst, arith, inl, inr, Contains}
use Rattle.std.specs.Prelude.{◌⊎◌, ◌≢◌, ◌==◌, ◌&&◌, AllPairs, All}
use Rattle.std.specs.List.{IsDistinct, list_any}
use Rattle.std.proofs.lemmas.Bool.{cases_eq, eqb-true}
use Rattle.std.proofs.lemmas.Bool.Decides.{nat_tests}
use Rattle.std.proofs.lemmas.List.{get_or_append_left, get_or_push, length_push}
use Rattle.std.proofs.lemmas.List.Elements.{recursion_from_All, Contains-get_or}
use Rattle.std.proofs.lemmas.Map.Steps.{length-le_from_distinct_below, le-length_from_below}
use Rattle.ch_graph.proofs.Lists.{contains_head, contains_tail, contains_cons, contains_none, pairs_tail, pairs_head, pairs_cons}

module _ {X : Type 0} (R : X → X → Type 0) where
  -- two lists in strict order with the same members are equal
  pub ordered_same : ((x y : X) → R x y → R y x → ⊥) → (xs ys : List X) → AllPairs R xs → AllPairs R ys →
      ((z : X) → Contains xs z → Contains ys z) → ((z : X) → Contains ys z → Contains xs z) → xs ≡ ys
  ordered_same strict [] [] p q f g = refl
  ordered_same strict [] (y ∷ ys) p q f g = absurd (contains_none y (g y (contains_head y ys)))
  ordered_same strict (x ∷ xs) [] p q f g = absurd (contains_none x (f x (contains_head x xs)))
  ordered_same strict (x ∷ xs) (y ∷ ys) p q f g =
      let rest : xs ≡ ys = ordered_same strict xs ys (pairs_tail R x xs p) (pairs_tail R y ys q) (λ z c. one z c) (λ z c. other z c) in
      λ i. first i ∷ rest i
    where
      first : x ≡ y
      first = elim (contains_cons y x ys (f x (contains_head x xs))) [
        | inl e ↦ sym e
        | inr later ↦ elim (contains_cons x y xs (g y (contains_head y ys))) [
          | inl e ↦ e
          | inr after ↦ absurd (strict x y (pairs_head R x y xs p after) (pairs_head R y x ys q later))
        ]
      ]

      one : (z : X) → Contains xs z → Contains ys z
      one z c = elim (contains_cons y z ys (f z (contains_tail z x xs c))) [
        | inl e ↦ let r = subst (R x) (sym (first ∙ e)) (pairs_head R x z xs p c) in absurd (strict x x r r)
        | inr later ↦ later
      ]

      other : (z : X) → Contains ys z → Contains xs z
      other z c = elim (contains_cons x z xs (g z (contains_tail z y ys c))) [
        | inl e ↦ let r = subst (R y) (sym (sym first ∙ e)) (pairs_head R y z ys q c) in absurd (strict y y r r)
        | inr later ↦ later
      ]

-- a number is in a list or not
pub contains_or_not : (xs : List ℕ) (z : ℕ) → Contains xs z ⊎ (Contains xs z → ⊥)
contains_or_not [] z = inr (contains_none z)
contains_or_not (x ∷ xs) z = elim (cases_eq x z) [
  | inl e ↦ inl (zero, omega arith, e)
  | inr ne ↦ elim (contains_or_not xs z) [
    | inl c ↦ inl (contains_tail z x xs c)
    | inr never ↦ inr (λ c. elim (contains_cons x z xs c) [ inl e ↦ ne e | inr later ↦ never later ])
  ]
]

-- different numbers, in the form of std's lemmas
distinct_by_test : (xs : List ℕ) → AllPairs ◌≢◌ xs → IsDistinct eqb xs
unfolding IsDistinct
distinct_by_test [] h = tt
distinct_by_test (x ∷ xs) h = (
  recursion_from_All (λ y. eqb x y ≡ false) xs
      (λ k d lt. let ne : x ≢ get_or xs k d = pairs_head ◌≢◌ x (get_or xs k d) xs h (Contains-get_or xs k d lt) in
      grind (arith, nat_tests)),
  distinct_by_test xs (pairs_tail ◌≢◌ x xs h),
)

-- if the test for a number holds, the number is in the list
any_contains : (xs : List ℕ) (q : ℕ) → list_any (eqb q) xs ≡ true → Contains xs q
any_contains [] q e = cc
any_contains (x ∷ xs) q e = at (eqb q x) refl e (any_contains xs q)
  where
    at : (b : Bool) → eqb q x ≡ b → (b || list_any (eqb q) xs) ≡ true → (list_any (eqb q) xs ≡ true → Contains xs q) → Contains (x ∷ xs) q
    at true t _ more = (zero, omega arith, sym (eqb-true q x t))
    at false t rest more = contains_tail q x xs (more rest)

-- if a number is in the list, the test holds
contains_any : (xs : List ℕ) (q : ℕ) → Contains xs q → list_any (eqb q) xs ≡ true
contains_any [] q c = absurd (contains_none q c)
contains_any (x ∷ xs) q c = elim (contains_cons x q xs c) [
  | inl e ↦ let t : eqb q x ≡ true = grind (arith, nat_tests) in rw t refl
  | inr later ↦ let rest = contains_any xs q later in grind (arith, rest)
]

-- different numbers below n are at most n
pub distinct_most : (xs : List ℕ) (n : ℕ) → AllPairs ◌≢◌ xs → ((q : ℕ) → Contains xs q → q < n) → length xs ≤ n
distinct_most xs n h below = length-le_from_distinct_below xs n (distinct_by_test xs h) (λ q e. below q (any_contains xs q e))

-- a list with each number below n has n numbers
pub whole_least : (xs : List ℕ) (n : ℕ) → ((q : ℕ) → q < n → Contains xs q) → n ≤ length xs
whole_least xs n each = le-length_from_below xs n (λ q lt. contains_any xs q (each q lt))

-- n different numbers below n are all of them
pub every_number : (xs : List ℕ) (n x : ℕ) → length xs ≡ n → All (λ v. v < n) xs → AllPairs ◌≢◌ xs → x < n → Contains xs x
every_number xs n x size below distinct lt = elim (contains_or_not xs x) [
  | inl c ↦ c
  | inr never ↦
      let long = distinct_most (x ∷ xs) n (pairs_cons ◌≢◌ x xs (λ y c e. never (subst (Contains xs) (sym e) c)) distinct)
      (λ q c. elim (contains_cons x q xs c)
      [ inl e ↦ subst (λ z. z < n) e lt | inr later ↦ subst (λ z. z < n) later.2 (below later.0 q later.1) ]) in
      absurd (omega arith)
]

-- appending a number that is not in the list keeps the numbers different
pub pairs_push : (xs : List ℕ) (y : ℕ) → AllPairs ◌≢◌ xs → (Contains xs y → ⊥) → AllPairs ◌≢◌ (xs ++ y ∷ [])
pairs_push xs y distinct away i j d lt within =
    let size = length_push xs y in
    let first : i < length xs = omega arith in
    λ e. elim (cases_eq j (length xs)) [
      | inl last ↦ away (subst (Contains xs) (sym (get_or_append_left xs (y ∷ []) d i first) ∙ e ∙ get_or_push xs y d j (sym last))
          (Contains-get_or xs i d first))
      | inr inside ↦
          let second : j < length xs = omega arith in
          distinct i j d lt second (sym (get_or_append_left xs (y ∷ []) d i first) ∙ e ∙ get_or_append_left xs (y ∷ []) d j second)
    ]

-- if the test of two pairs holds, the pairs are equal
pub same_ends : (u w a b : ℕ) → (a == u && b == w) ≡ true → (a ≡ u) × (b ≡ w)
same_ends u w a b e = (grind (arith, nat_tests), grind (arith, nat_tests))
